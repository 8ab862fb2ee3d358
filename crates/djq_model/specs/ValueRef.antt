-- A value that is lent: its text is elsewhere.
use Rattle.djq_model.specs.declared.value.Value.{Value}
use Rattle.djq_model.specs.declared.value.Value.TheVariants.{Int, Text}
use Rattle.djq_model.specs.declared.value_ref.ValueRef.{ValueRef}
use Rattle.djq_model.specs.declared.value_ref.ValueRef.TheVariants.{Int as LentInt, Text as LentText}

-- the value that it is
abbrev pub value_lent : ValueRef → Value
value_lent (LentInt i) = Int i
value_lent (LentText t) = Text t.now
