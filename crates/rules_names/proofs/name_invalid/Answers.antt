use Rattle.rules_names.specs.Name.{name_invalid}
use Rattle.rules_names.proofs.name_invalid.Goals as goal

pub returns : goal.returns
unfolding name_invalid
returns c =
    rw (← c.name.ensures, ← c.is_valid_name.ensures)
