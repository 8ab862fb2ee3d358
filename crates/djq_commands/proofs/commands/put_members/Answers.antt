-- Before each turn the text has the lines of the members so far; at the count it has those of all.
use Rattle.djq_model.specs.Listed.{listed_of}
use Rattle.djq_commands.proofs.CutReplies.{puts_more, puts_last}
use Rattle.djq_commands.proofs.commands.put_members.Goals as goal

pub loop-nth-preserved : goal.loop-nth-preserved
loop-nth-preserved c =
    puts_more (listed_of (c.args.engine.now).store.queries c.args.union.now) c.loop-nth.nth c.member_name.result
    c.args.text.now.items c.loop-nth.text.items c.put_member.new.out.items
    c.loop-nth.invariant c.member_name.ensures c.in_ok-put_member.ensures.items

pub returns : goal.returns
returns c =
    puts_last (listed_of (c.args.engine.now).store.queries c.args.union.now) c.args.count c.loop-nth.nth
    c.args.text.now.items c.loop-nth.text.items
    c.loop-nth.invariant c.requires c.loop-nth-test.false
