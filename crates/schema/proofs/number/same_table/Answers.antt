use Rattle.std.specs.Prelude.{◌≡◌}
use Rattle.std.proofs.Common.{refl, ◌∙◌}
use denote.Enum.Bare.{sameb}
use Rattle.schema.specs.Numbers.{same_table}
use Rattle.schema.specs.declared.number.TableId.{TableId}
use Rattle.schema.specs.declared.number.TableId.TheVariants.{Attributes, Classes}
use Rattle.schema.specs.contracts.number.TableId.{the_type}
use Rattle.schema.proofs.number.same_table.Goals as goal

each : (a b : TableId) → sameb the_type a b ≡ same_table a b
unfolding same_table
each Attributes Attributes = refl
each Attributes Classes = refl
each Classes Attributes = refl
each Classes Classes = refl

pub returns : goal.returns
returns c = c.eq.ensures ∙ each c.args.a c.args.b
