-- A change that numbers 5 to 11 let pass: it can be made in the stores, and taken back.
use lib.ListN.{length}
use native.Mathlib.Omega.{arith}
use Prim.Native.Nat.{◌≤◌, ℕ, ◌<◌}
use mathlib.Core.List.{List}
use mathlib.Core.Path.{◌∙◌, ◌≡◌, refl, ap, subst}
use mathlib.Core.Bool.{cond, false}
use Rattle.schema.specs.declared.number.TableId.TheVariants.{Attributes, Classes}
use Rattle.schema.specs.Store.{Schema, Stores, count_in, schema_of, table, table_store, store_of}
use Rattle.schema.specs.declared.number.TableId.{TableId}
use Rattle.schema.specs.Numbers.{class_limit, limit, number_of}
use Rattle.schema.specs.Layout.{class_width, closure_length, store_length}
use Rattle.schema.specs.LayoutLaws.{narrow_row}
use Rattle.schema.specs.NumbersLaws.{id_number}
use Rattle.schema.specs.StoreLaws.{table_row_length}
use Rattle.change_read.specs.declared.read.Change.{Change}
use Rattle.change_read.specs.declared.read.Change.TheVariants.{Add, AddEntry}
use Rattle.change_read.specs.Carried.{target_of}
use Rattle.change_rows.specs.Stores.{Applicable, row_changed}
use Rattle.change_rows.specs.Rows.{is_addition, number_for, table_for}
use Rattle.prelude.specs.Part.{Bytes}
use Rattle.prelude.specs.PartLaws.{padded_length}
use Rattle.keeper_change.specs.Made.{Restorable, rows_back, rows_made, before, Allowed}
use Rattle.keeper_change.specs.PlainLaws.{taken_back}
use Rattle.keeper_change.specs.MadeLaws.{made_applicable, made_shape, row_table, row_within}
use Rattle.change_model.specs.ThereLaws.{class_room}
use Rattle.keeper.specs.InShape.{InShape}
use Rattle.graph.specs.Graph.{Readable}
use Rattle.tables.specs.Shaped.{Shaped}
use Rattle.tables_shape.specs.Shape.{StoresFormed}
use Rattle.tables_shape.proofs.ShapeLaws.{formed_readable, says_formed, formed_shaped}

module _ (change : Change) (r : List ℕ) (s : Stores) (j : Allowed change r s) where
  abbrev m : Schema
  m = schema_of s

  abbrev old : List ℕ
  old = table_store (table_for change) s

  pub applicable : Applicable change r old
  applicable = made_applicable change j.read.text r s j.read.bytes j.read.reads j.shape j.asked

  -- the target of a change that is no addition, by what number 5 let pass
  pub target_within : (x : Change) → change ≡ x → is_addition x ≡ false → target_of r < limit (table_for x)
  target_within x e = subst (λ (y : Change). is_addition y ≡ false → target_of r < limit (table_for y)) e applicable.within

  -- what a change adds can be said
  pub addable : (n : ℕ) → n ≡ (schema_of s).classes.count → (length r ≡ class_width) × (change ≡ AddEntry → target_of r < class_limit)
      × (change ≡ Add Classes → n < class_limit)
  addable n e = (applicable.carried, (λ q. target_within AddEntry q refl), (λ q. omega (arith, e, class_room change r (schema_of s) j.asked q)))

  new_shape : InShape (rows_made change r s)
  new_shape = made_shape change j.read.text r s j.read.bytes j.read.reads j.shape j.asked

  pub made_shaped : Shaped (rows_made change r s).attributes (rows_made change r s).classes
  made_shaped = formed_shaped _ _ new_shape.long.attributes new_shape.long.classes new_shape.formed

  pub made_readable : Readable (rows_made change r s).classes
  made_readable = formed_readable _ _ new_shape.long.attributes new_shape.long.classes new_shape.formed

  formed : StoresFormed s.attributes s.classes
  formed = (says_formed s.attributes s.classes j.shape.long.attributes j.shape.long.classes).holds j.shape.formed

  pub few_rows : (t : TableId) → (table t m).count ≤ limit t
  few_rows Attributes = formed.attributes.few
  few_rows Classes = formed.classes.few

  pub closure_long_lem : closure_length ≤ length s.closure
  closure_long_lem = j.shape.long.closure

  -- what was saved can be put back
  pub restorable : Restorable (before change r old) (rows_made change r s).attributes (rows_made change r s).classes
  restorable =
      let t = row_table change r old in
      record {
        long = rw t (store_long (table_for change));
        within = rw t (row_within change r old applicable);
        few = rw t (counted (table_for change));
        wide = padded_length class_width _ (omega (
          arith,
          narrow_row (table_for change),
          table_row_length (table_for change) old
              (number_of (row_changed change r old)) applicable.long (row_within change r old applicable),
        ));
      }
    where
      store_long : (t : TableId) → store_length t ≤ length (table_store t (rows_made change r s))
      store_long Attributes = new_shape.long.attributes
      store_long Classes = new_shape.long.classes

      counted : (t : TableId) → count_in t (table_store t s) ≤ limit t
      counted Attributes = few_rows Attributes
      counted Classes = few_rows Classes

  pub back : Bytes old → rows_back (before change r old) (rows_made change r s) ≡ s
  back = taken_back change j.read.text r s j.read.bytes j.read.reads j.shape j.asked

  -- the row's number, by the store and by the model
  pub number_is : number_of (row_changed change r old) ≡ number_for change r m
  unfolding number_for
  number_is = id_number (table_for change) _ ∙ ap (λ (n : ℕ). cond (is_addition change) n (target_of r)) (count (table_for change))
    where
      count : (t : TableId) → count_in t (table_store t s) ≡ (table t m).count
      count Attributes = refl
      count Classes = refl

pub store_bytes : (t : TableId) (a c : List ℕ) → Bytes a → Bytes c → Bytes (store_of t a c)
store_bytes Attributes a c p q = p
store_bytes Classes a c p q = q
