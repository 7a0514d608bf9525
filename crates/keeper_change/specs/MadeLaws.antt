-- A change that was made: the stores are in shape, as long as they were, and hold the rows of the model.
use Rattle.std.proofs.Math.ListN.{length}
use Rattle.std.proofs.Common.{arith, ap, subst, sym, inl, inr}
use Rattle.std.specs.Prelude.{◌<◌, ◌≤◌, ℕ, ◌≡◌, refl, ◌⊎◌, false, true, cond}
use mathlib.Core.List.{List, []}
use Rattle.schema.specs.declared.number.TableId.TheVariants.{Attributes, Classes}
use Rattle.schema.specs.Store.{LongEnough, Stores, Table, count_in, schema_of, table, table_in, table_store, with_store, with_table}
use Rattle.schema.specs.declared.number.TableId.{TableId}
use Rattle.schema.specs.Numbers.{limit, number_of, table_of}
use Rattle.schema.specs.Layout.{row_width, store_length}
use Rattle.schema.specs.NumbersLaws.{id_number, id_table}
use Rattle.change_rows.specs.Stores.{Applicable, store_after, row_changed, restored}
use Rattle.change_rows.specs.FormedLaws.{edited_formed}
use Rattle.change_rows.specs.FrontLaws.{old_wide, plus_wide, put_wide}
use Rattle.change_rows.specs.Rows.{edited_row, is_addition, schema_after, table_after, table_for}
use Rattle.prelude.specs.Part.{Bytes, part}
use Rattle.prelude.specs.SaysLaws.{true_or_false}
use Rattle.change_read.specs.declared.read.Change.{Change}
use Rattle.change_read.specs.ChangeLaws.{Reads, change_length}
use Rattle.change_read.specs.Carried.{target_of}
use Rattle.keeper.specs.InShape.{InShape}
use Rattle.tables.specs.Same.{Same, SameRows}
use Rattle.tables_shape.specs.Shape.{StoresFormed, TableFormed}
use Rattle.tables_shape.specs.PutShapeLaws.{plus_formed, put_formed}
use Rattle.tables_shape.proofs.ShapeLaws.{says_formed}
use Rattle.tables.specs.PutLaws.{plus_length, plus_same, put_length, put_same}
use Rattle.tables.specs.SameLaws.{same_reflexive}
use Rattle.change_asked.specs.AskedLaws.{asked_room, asked_there}
use Rattle.change_asked.specs.Asked.{first_asked}
use Rattle.keeper_change.specs.Made.{rows_made, rows_back}
use Rattle.keeper_change.specs.declared.rows.Before.{Before}

-- the stores of a table and of the other
formed_table : (t : TableId) (s : Stores) → StoresFormed s.attributes s.classes → TableFormed t (table_store t s)
formed_table Attributes s f = f.attributes
formed_table Classes s f = f.classes

long_table : (t : TableId) (s : Stores) → LongEnough s → store_length t ≤ length (table_store t s)
long_table Attributes s l = l.attributes
long_table Classes s l = l.classes

held_table : (t : TableId) (s : Stores) → table_in t (table_store t s) ≡ table t (schema_of s)
held_table Attributes s = refl
held_table Classes s = refl

-- a store replaced by another in shape
replaced_long : (t : TableId) (new : List ℕ) (s : Stores) → LongEnough s → length new ≡ length (table_store t s) → LongEnough (with_store t new s)
replaced_long Attributes new s l e = record { attributes = omega (arith, l.attributes); classes = l.classes; closure = l.closure }
replaced_long Classes new s l e = record { attributes = l.attributes; classes = omega (arith, l.classes); closure = l.closure }

replaced_formed : (t : TableId) (new : List ℕ) (s : Stores) → StoresFormed s.attributes s.classes → TableFormed t new
    → StoresFormed (with_store t new s).attributes (with_store t new s).classes
replaced_formed Attributes new s f g = record { attributes = g; classes = f.classes }
replaced_formed Classes new s f g = record { attributes = f.attributes; classes = g }

-- and holding the rows of another table
replaced_same : (t : TableId) (new : List ℕ) (u : Table) (s : Stores) → Same (table_in t new) u
    → SameRows (schema_of (with_store t new s)) (with_table t u (schema_of s))
replaced_same Attributes new u s h Attributes = h
replaced_same Attributes new u s h Classes = same_reflexive (table_in Classes s.classes)
replaced_same Classes new u s h Attributes = same_reflexive (table_in Attributes s.attributes)
replaced_same Classes new u s h Classes = h

-- the change is made in the store of its table, and taken back there
pub made_in : (t : TableId) (change : Change) (r : List ℕ) (s : Stores) → table_for change ≡ t
    → with_store t (store_after change r (table_store t s)) s ≡ rows_made change r s
unfolding rows_made
made_in t change r s e = ap (λ (u : TableId). with_store u (store_after change r (table_store u s)) s) (sym e)

pub back_in : (t : TableId) (b : Before) (s : Stores) → table_of b.id ≡ t
    → with_store t (restored t (number_of b.id) b.count (part 0 (row_width t) b.row) (table_store t s)) s ≡ rows_back b s
unfolding rows_back
back_in t b s e =
    ap (λ (u : TableId). with_store u (restored u (number_of b.id) b.count (part 0 (row_width u) b.row) (table_store u s)) s) (sym e)

-- the row that a change is about lies within its table
pub row_within : (change : Change) (r s : List ℕ) → Applicable change r s → number_of (row_changed change r s) < limit (table_for change)
row_within change r s ok = rw (id_number (table_for change) (cond (is_addition change) (count_in (table_for change) s) (target_of r))) (go (true_or_false
    (is_addition change)))
  where
    go : (is_addition change ≡ true) ⊎ (is_addition change ≡ false) → cond (is_addition change) (count_in (table_for change) s) (target_of r) < limit
        (table_for change)
    go (inl e) = rw e (ok.room e)
    go (inr e) = rw e (ok.within e)

pub row_table : (change : Change) (r s : List ℕ) → table_of (row_changed change r s) ≡ table_for change
row_table change r s = id_table (table_for change) _

-- ---- a change that was read, of which numbers 5 to 11 say nothing

module _ (change : Change) (x r : List ℕ) (s : Stores) (bytes : Bytes x) (reads : Reads x change r) (shape : InShape s)
    (asked : first_asked change r (schema_of s) ≡ 0) where
  abbrev of : TableId
  of = table_for change

  abbrev store : List ℕ
  store = table_store of s

  formed : TableFormed of store
  formed = formed_table of s ((says_formed s.attributes s.classes shape.long.attributes shape.long.classes).holds shape.formed)

  long : store_length of ≤ length store
  long = long_table of s shape.long

  count : count_in of store ≡ (table of (schema_of s)).count
  count = ap (λ (t : Table). t.count) (held_table of s)

  room : is_addition change ≡ true → count_in of store < limit of
  room e = omega (arith, asked_room change r (schema_of s) asked e, count)

  there : is_addition change ≡ false → target_of r < count_in of store
  there e = omega (arith, asked_there change r (schema_of s) asked e, count)

  pub made_applicable : Applicable change r store
  made_applicable = record {
    carried = change_length x change r bytes reads;
    long = long;
    room = room;
    within = λ e. omega (arith, there e, formed.few);
  }

  made_formed : TableFormed of (store_after change r store)
  unfolding store_after
  made_formed = go (true_or_false (is_addition change))
    where
      go : (is_addition change ≡ true) ⊎ (is_addition change ≡ false) → TableFormed of (store_after change r store)
      go (inl e) = rw e (plus_formed of store long formed (edited_row change r []) (plus_wide change r store made_applicable e)
          (edited_formed change x r [] bytes reads (inl e)) (room e))
      go (inr e) = rw e (put_formed of store long formed (edited_row change r ((table_in of store).row (target_of r))) (put_wide change r store made_applicable e)
          (edited_formed change x r _ bytes reads (inr (old_wide change r store made_applicable e, formed.rows (target_of r) (there e))))
          (target_of r) (there e))

  pub made_length : length (store_after change r store) ≡ length store
  unfolding store_after
  made_length = go (true_or_false (is_addition change))
    where
      go : (is_addition change ≡ true) ⊎ (is_addition change ≡ false) → length (store_after change r store) ≡ length store
      go (inl e) = rw e (plus_length of (edited_row change r []) store long (room e) (plus_wide change r store made_applicable e))
      go (inr e) = rw e (put_length of (target_of r) (edited_row change r ((table_in of store).row (target_of r))) store long (made_applicable.within e)
          (put_wide change r store made_applicable e))

  table_same : Same (table_in of (store_after change r store)) (table_after change r (table_in of store))
  unfolding store_after table_after
  table_same = go (true_or_false (is_addition change))
    where
      go : (is_addition change ≡ true) ⊎ (is_addition change ≡ false) → Same (table_in of (store_after change r store)) (table_after change r (table_in of store))
      go (inl e) = rw e (plus_same of (edited_row change r []) store long (room e) (plus_wide change r store made_applicable e))
      go (inr e) = rw e (put_same of (target_of r) (edited_row change r ((table_in of store).row (target_of r))) store long (made_applicable.within e)
          (put_wide change r store made_applicable e))

  pub made_shape : InShape (rows_made change r s)
  unfolding rows_made
  made_shape =
      let l = replaced_long of (store_after change r store) s shape.long made_length in
      let f = (says_formed s.attributes s.classes shape.long.attributes shape.long.classes).holds shape.formed in
      record { long = l; formed = (says_formed _ _ l.attributes l.classes).passes (replaced_formed of (store_after change r store) s f made_formed) }

  pub made_same : SameRows (schema_of (rows_made change r s)) (schema_after change r (schema_of s))
  unfolding rows_made schema_after
  made_same = replaced_same of (store_after change r store) (table_after change r (table of (schema_of s))) s
      (subst (λ (t : Table). Same (table_in of (store_after change r store)) (table_after change r t)) (held_table of s) table_same)
