-- The sheets that the tables give back. Document 01: "sheet, tables, sheet does if accepted and 08 stands exactly where oMSyntax is 127". It is said of the
-- fields that stand in the sheet (`FieldStands`: "one byte tag, two bytes length, value"), and of nothing that a reader makes of them;
-- `says_exact_read` (ExactLaws) joins it to what is read.
use Rattle.std.specs.Prelude.{List, ◌↔◌, ◌≡◌, ℕ, ◌+◌, length, get_or}
use Rattle.rows_read.specs.Stopping.{FieldStands}

-- whole fields, none or more, stand one behind the other from a place up to another
pub data FieldsStand (s : List ℕ) (end : ℕ) : ℕ → ℕ → Type 0 where
  none : {at : ℕ} → FieldsStand s end at at
  more : {from tag stop at : ℕ} → FieldStands s end from tag stop → FieldsStand s end stop at → FieldsStand s end from at

-- among the fields of s[from..end) one with the tag stands at a place
pub record Stands (s : List ℕ) (from end tag at stop : ℕ) : Type 0 where
  pub before : FieldsStand s end from at
  pub field : FieldStands s end at tag stop

-- "08 oMObjectClass" stands in the value s[from..end) of a row
pub record HasObjectClass (s : List ℕ) (from end : ℕ) : Type 0 where
  pub at : ℕ
  pub stop : ℕ
  pub stands : Stands s from end 8 at stop

-- "07 oMSyntax (a byte ..)" stands in it, and that byte is 127
pub record HasObjectSyntax (s : List ℕ) (from end : ℕ) : Type 0 where
  pub at : ℕ
  pub stop : ℕ
  pub stands : Stands s from end 7 at stop
  pub one : stop ≡ at + 3 + 1
  pub object : get_or s (at + 3) 0 ≡ 127

-- "08 stands exactly where oMSyntax is 127"
abbrev pub ExactRow : List ℕ → ℕ → ℕ → Type 0
ExactRow s from end = HasObjectClass s from end ↔ HasObjectSyntax s from end

-- in every attribute row of a sheet: "attribute rows 20", the tag in decimal here
abbrev pub ExactSheet : List ℕ → Type 0
ExactSheet s = (at stop : ℕ) → Stands s 0 (length s) 32 at stop → ExactRow s (at + 3) stop
