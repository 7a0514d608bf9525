-- The entry that a list change names: below its table's limit it is a number of that table, and beyond it no list has a bit for it.
use Rattle.std.proofs.Common.{arith, ◌∙◌, ap}
use Rattle.std.specs.Prelude.{◌*◌, ◌≤◌, ◌<◌, ℕ, length, false, List, ◌≡◌, refl}
use Rattle.prelude.specs.Part.{part}
use Rattle.prelude.specs.PartLaws.{part_short}
use Rattle.prelude.specs.SaysLaws.{says_false}
use Rattle.sets.specs.Sets.{member}
use Rattle.sets.specs.SetsLaws.{bit_past, says_member}
use Rattle.schema.specs.declared.number.RowId.{RowId}
use Rattle.schema.specs.Numbers.{limit, number_of, table_of}
use Rattle.schema.specs.NumbersLaws.{id_number, id_table, number_beyond, number_is}
use Rattle.change_read.specs.Carried.{entry_of, list_of}
use Rattle.change_read.specs.declared.carried.OpenList.{OpenList}
use Rattle.change_read.specs.declared.carried.OpenList.TheVariants.{Optional, Auxiliary, Superior}
use Rattle.change_rows.specs.Lists.{entry_read, list_table, list_width}
use Rattle.std.specs.Prelude.{Some, None}

-- a list has a bit for each row that its table can hold
list_bits : (list : OpenList) → list_width list * 8 ≡ limit (list_table list)
list_bits Optional = refl
list_bits Auxiliary = refl
list_bits Superior = refl

-- the entry as a row of its list's table
pub record EntryIs (r : List ℕ) (id : RowId) : Type 0 where
  pub table : table_of id ≡ list_table (list_of r)
  pub number : number_of id ≡ entry_of r
  pub below : number_of id < limit (table_of id)

pub entry_is : (r : List ℕ) {id : RowId} → entry_read r ≡ Some id → EntryIs r id
entry_is r {id} e =
    let t = list_table (list_of r) in
    let w = number_is t (entry_of r) e in
    let table : table_of id ≡ t = ap table_of w.0 ∙ id_table t (entry_of r) in
    let number : number_of id ≡ entry_of r = ap number_of w.0 ∙ id_number t (entry_of r) in
    record { table = table; number = number; below = omega (arith, number, w.1, ap limit table) }

-- a list that stands anywhere in a row
module _ (r : List ℕ) (e : entry_read r ≡ None) (at : ℕ) (row : List ℕ) where
  pub entry_beyond : length (part at (list_width (list_of r)) row) * 8 ≤ entry_of r
  entry_beyond =
      omega (
        arith,
        list_bits (list_of r),
        number_beyond (list_table (list_of r)) (entry_of r) e,
        (part_short at (list_width (list_of r)) row).0,
      )

  pub entry_absent : member (part at (list_width (list_of r)) row) (entry_of r) ≡ false
  entry_absent =
      let past = bit_past (part at (list_width (list_of r)) row) (entry_of r) (omega (arith, entry_beyond)) in
      says_false (says_member (part at (list_width (list_of r)) row) (entry_of r)) (λ o. omega arith)
