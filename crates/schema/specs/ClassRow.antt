-- The rest of a class row. Document 01: "Class row also: category (0 88 class, 1 structural, 2 abstract, 3 auxiliary), superclass, naming attribute
-- rDNAttID (may be absent), and seven sets: mandatory; fixed and open optional; fixed and open auxiliary; fixed and open possible superiors."
use Rattle.std.specs.Prelude.{cond, List, ℕ, ◌+◌, get_or}
use Rattle.prelude.specs.Part.{part}
use Rattle.schema.specs.Layout.{class_set, attribute_set, category_at, superclass_at, naming_at, mandatory_at, fixed_optional_at, open_optional_at}
use Rattle.schema.specs.Layout.{fixed_auxiliary_at, open_auxiliary_at, fixed_superior_at, open_superior_at}
use Rattle.schema.specs.Row.{flag_at}
use Rattle.schema.specs.declared.number.AttributeNumber.{AttributeNumber}
use Rattle.std.specs.Prelude.{Option, Some, None}

abbrev pub category_of : List ℕ → ℕ
category_of row = get_or row category_at 0

abbrev pub superclass_of : List ℕ → ℕ
superclass_of row = get_or row superclass_at 0

-- the naming attribute
unfoldable pub naming_of : List ℕ → Option AttributeNumber
naming_of row = cond (flag_at naming_at row) (Some (record { 0 = get_or row (naming_at + 1) 0 })) None

abbrev pub mandatory_of : List ℕ → List ℕ
mandatory_of row = part mandatory_at attribute_set row

abbrev pub fixed_optional_of : List ℕ → List ℕ
fixed_optional_of row = part fixed_optional_at attribute_set row

abbrev pub open_optional_of : List ℕ → List ℕ
open_optional_of row = part open_optional_at attribute_set row

abbrev pub fixed_auxiliary_of : List ℕ → List ℕ
fixed_auxiliary_of row = part fixed_auxiliary_at class_set row

abbrev pub open_auxiliary_of : List ℕ → List ℕ
open_auxiliary_of row = part open_auxiliary_at class_set row

abbrev pub fixed_superior_of : List ℕ → List ℕ
fixed_superior_of row = part fixed_superior_at class_set row

abbrev pub open_superior_of : List ℕ → List ℕ
open_superior_of row = part open_superior_at class_set row
