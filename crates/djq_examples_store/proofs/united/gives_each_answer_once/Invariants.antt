-- The counters stand on the ledgers that the blanks are of.
use Rattle.djq_examples_store.proofs.united.gives_each_answer_once.Given as goal

abbrev pub ghosts-given : goal.ghosts-given
ghosts-given g a =
    record {
      listing = a.blanks.listing.name;
      update = a.blanks.update.name;
      rows = a.blanks.rows.name;
    }
