-- The worked example, computed.
use Rattle.std.proofs.Common.{refl, arith}
use Rattle.djq_log_format.specs.Digest.{words_of}
use Rattle.djq_log_format.specs.Format.{records}
use Rattle.djq_log_format.specs.Example.{ExampleIsClosedWhole, example_groups, example_file}

pub example_holds : ExampleIsClosedWhole
unfolding words_of records example_groups example_file
example_holds = record {
  are_stored = (
    record {
      gate_open = omega arith;
      is_group = record {
        some = omega arith;
        are_lines = (
          record {
            some = omega arith;
            short = omega arith;
            are_bytes = (omega arith, (omega arith, (omega arith, (omega arith, (omega arith, (omega arith, (omega arith, (omega arith, (omega arith, tt)))))))));
          },
          tt,
        );
        short = omega arith;
      };
    },
    (
      record {
        gate_open = omega arith;
        is_group = record {
          some = omega arith;
          are_lines = (
            record {
              some = omega arith;
              short = omega arith;
              are_bytes = (omega arith, (omega arith, (omega arith, (omega arith, (omega arith, (omega arith, (omega arith, tt)))))));
            },
            (
              record {
                some = omega arith;
                short = omega arith;
                are_bytes = (omega arith, (omega arith, (omega arith, (omega arith, (omega arith, (omega arith, (omega arith, tt)))))));
              },
              tt,
            ),
          );
          short = omega arith;
        };
      },
      tt,
    ),
  );
  is = refl;
}
