-- A row by its typed number, and what is asked of it.
use native.Mathlib.Omega.{arith}
use Prim.Native.Nat.{◌<◌, ℕ, ◌≤◌}
use mathlib.Core.List.{List}
use mathlib.Core.Path.{◌≡◌, subst, sym, ◌∙◌, ap, refl}
use mathlib.Core.Bool.{true, Bool, false}
use Rattle.schema.specs.declared.number.TableId.TheVariants.{Attributes, Classes}
use Rattle.schema.specs.declared.number.RowId.TheVariants.{Attribute, Class}
use Rattle.change_read.specs.declared.read.Change.TheVariants.{Deactivate}
use Rattle.change_read.specs.declared.read.Change.{Change}
use Rattle.std.specs.Prelude.{Option, Some, None}
use Rattle.std.specs.Option.{MatchOption}
use Rattle.prelude.specs.Part.{part}
use Rattle.sets.specs.Sets.{member}
use Rattle.change_rows.specs.Lists.{entry_read, list_width}
use Rattle.change_rows.specs.ListsLaws.{entry_absent, entry_is}
use Rattle.change_read.specs.Carried.{entry_of, list_of, target_of}
use Rattle.schema.specs.declared.number.AttributeNumber.{AttributeNumber}
use Rattle.schema.specs.declared.number.RowId.{RowId}
use Rattle.schema.specs.Store.{Schema, schema_in, table, table_in, Table, store_of}
use Rattle.schema.specs.Numbers.{number_of, table_of, limit, row_id}
use Rattle.schema.specs.declared.number.TableId.{TableId}
use Rattle.schema.specs.NumbersLaws.{id_number, id_table}
use Rattle.prelude.specs.Below.{any_below}
use Rattle.change_asked.specs.Needed.{class_needs, needed}
use Rattle.change_asked.specs.Asked.{still_needed, addition_asked, first_asked, target_asked}
use Rattle.change_asked.specs.AskedLaws.{asked_addition, asked_target}
use Rattle.change_rows.specs.Rows.{table_for, is_addition}
use Rattle.tables.specs.Shaped.{Shaped}
use Rattle.tables.specs.ShapedLaws.{shaped_table}

-- an attribute that is there
pub attribute_there : (a c : List ℕ) {id : RowId} {x : AttributeNumber} → id ≡ Attribute x → number_of id < (table (table_of id) (schema_in a c)).count
    → x.0 < (table_in Attributes a).count
attribute_there a c e l = subst (λ (i : RowId). number_of i < (table (table_of i) (schema_in a c)).count) e l

-- a class needs the row
pub needed_by_class : (id : RowId) (m : Schema) → any_below m.classes.count (class_needs (table_of id) (number_of id) m.classes) ≡ true
    → true ≡ needed m (table_of id) (number_of id)
unfolding needed
needed_by_class (Attribute x) m e = rw e
needed_by_class (Class x) m e = sym e

-- a deactivated row is of the change's table
pub needed_target : (id : RowId) (m : Schema) {change : Change} {t : TableId} {b : Bool} → change ≡ Deactivate t → table_of id ≡ table_for change
    → b ≡ needed m (table_of id) (number_of id) → b ≡ still_needed change (number_of id) m
needed_target id m e q n = rw e (n ∙ ap (λ (x : TableId). needed m x (number_of id)) (q ∙ ap table_for e))

-- whether a list holds the entry that a change names: one beyond the limit is in no list
pub entry_held : (r : List ℕ) (at : ℕ) (row : List ℕ) (got : Option RowId) (b : Bool) (P : RowId → Type 0) → got ≡ entry_read r → MatchOption got (b ≡ false) P
    → ((id : RowId) → P id → b ≡ member (part at (list_width (list_of r)) row) (number_of id))
    → b ≡ member (part at (list_width (list_of r)) row) (entry_of r)
entry_held r at row None b P e h says = h ∙ sym (entry_absent r (sym e) at row)
entry_held r at row (Some id) b P e h says =
    says id h ∙ ap (member (part at (list_width (list_of r)) row)) (entry_is r (sym e)).number

-- ---- the two ways of asking

-- the table of a schema is that of its store
pub of_store : (t : TableId) (a c : List ℕ) → table_in t (store_of t a c) ≡ table t (schema_in a c)
of_store Attributes a c = refl
of_store Classes a c = refl

pub addition_found : (change : Change) (r a c : List ℕ) {t : TableId} {s : List ℕ} → t ≡ table_for change → s ≡ store_of t a c → is_addition change ≡ true
    → addition_asked t r (table_in t s) ≡ first_asked change r (schema_in a c)
addition_found change r a c {t} q e add =
    ap (λ (x : List ℕ). addition_asked t r (table_in t x)) e ∙ ap (addition_asked t r) (of_store t a c)
    ∙ ap (λ (u : TableId). addition_asked u r (table u (schema_in a c))) q ∙ sym (asked_addition change r (schema_in a c) add)

-- a number beyond the limit is past the count
pub beyond_count : (change : Change) (r : List ℕ) {a c : List ℕ} {t : TableId} {n : ℕ} → Shaped a c → t ≡ table_for change → n ≡ target_of r → limit t ≤ n
    → (table (table_for change) (schema_in a c)).count ≤ target_of r
beyond_count change r {a} {c} {t} {n} h q e l =
    let few = (shaped_table (table_for change) h).few in
    let is = ap (λ (u : Table). u.count) (of_store (table_for change) a c) in
    let b : limit (table_for change) ≤ n = rw (← q) l in
    omega arith

module _ (change : Change) (r a c : List ℕ) {t : TableId} {s : List ℕ} {n k count : ℕ} {id : RowId} (q : t ≡ table_for change) (e : s ≡ store_of t a c)
    (target : n ≡ target_of r) (is : id ≡ row_id t n) (number : k ≡ number_of id) (counted : count ≡ (table_in t s).count) where
  count_is : count ≡ (table (table_for change) (schema_in a c)).count
  count_is = counted ∙ ap (λ (x : List ℕ). (table_in t x).count) e ∙ ap (λ (u : Table). u.count) (of_store t a c)
      ∙ ap (λ (u : TableId). (table u (schema_in a c)).count) q

  number_target : number_of id ≡ target_of r
  number_target = ap number_of is ∙ id_number t n ∙ target

  pub table_target : table_of id ≡ table_for change
  table_target = ap table_of is ∙ id_table t n ∙ q

  -- it is past the count
  pub target_past : count ≤ k → (table (table_for change) (schema_in a c)).count ≤ target_of r
  target_past l = omega (arith, count_is, number_target)

  -- it is there
  pub target_there : k < count → number_of id < (table (table_of id) (schema_in a c)).count
  target_there l = rw table_target (omega (arith, count_is))

  pub target_found : is_addition change ≡ false → k < count
      → target_asked change r (number_of id) (schema_in a c) ≡ first_asked change r (schema_in a c)
  target_found fixed l =
      ap (λ (x : ℕ). target_asked change r x (schema_in a c)) number_target
      ∙ sym (asked_target change r (schema_in a c) fixed (omega (arith, count_is, number_target)))
