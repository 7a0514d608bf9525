-- A store that was filled with well-formed rows is well-formed.
use Rattle.std.specs.Prelude.{true, ◌++◌, [], List, ◌≡◌, refl, ◌<◌, ◌≤◌, ℕ, get_or, length}
use Rattle.std.proofs.Common.{ap, ◌∙◌, arith}
use Rattle.prelude.specs.SpliceLaws.{splice_length}
use Rattle.prelude.specs.Part.{splice}
use Rattle.schema.specs.declared.number.TableId.TheVariants.{Attributes, Classes}
use Rattle.schema.specs.declared.number.TableId.{TableId}
use Rattle.schema.specs.Numbers.{limit}
use Rattle.schema.specs.Layout.{row_width, store_length}
use Rattle.schema.specs.Store.{table_in}
use Rattle.tables.specs.Filled.{AllWide, header, filled_store}
use Rattle.tables.specs.FilledLaws.{store_count, store_flat, store_length_lem, store_row, store_spare}
use Rattle.rows_read.specs.WellFormed.{well_formed}
use Rattle.tables_shape.proofs.ShapeLaws.{says_table_formed}
use Rattle.tables_shape.specs.Shape.{table_formed}

-- a store whose front was written over is as long as it was
front_long : (n : ℕ) (x s : List ℕ) → length x ≡ n → n ≤ length s → n ≤ length (splice 0 x s)
front_long n x s e long = omega (arith, splice_length 0 x s (omega (arith, e, long)))

-- the header of the classes' store ends with a zero
beside_filled : (t : TableId) (n : ℕ) (x : List ℕ) → t ≡ Classes → get_or (header t n ++ x) 1 0 ≡ 0
beside_filled Attributes n x e = let no : ◌≡◌ {A = ℕ} 0 1 = cc in absurd (omega arith)
beside_filled Classes n x e = refl

pub filled_formed : (t : TableId) (rows : List (List ℕ)) (s : List ℕ) → store_length t ≤ length s → AllWide (row_width t) rows → length rows ≤ limit t
    → ((k : ℕ) → k < length rows → well_formed t (get_or rows k []) ≡ true) → table_formed t (splice 0 (filled_store t rows) s) ≡ true
filled_formed t rows s long wide few each =
    let count : (table_in t (splice 0 (filled_store t rows) s)).count ≡ length rows = store_count t rows s wide few in
    (says_table_formed t (splice 0 (filled_store t rows) s) (front_long (store_length t) (filled_store t rows) s (store_length_lem t rows s wide few) long)).passes
    (record {
      beside = λ e. ap (λ (x : List ℕ). get_or x 1 0) (store_flat t rows s wide few) ∙ beside_filled t (length rows) _ e;
      few = omega (arith, count, few);
      rows = λ k l. (let m : k < length rows = omega (arith, count) in ap (well_formed t) (store_row t rows s wide few k m) ∙ each k m);
      unused = λ k l m. store_spare t rows s wide few k (omega (arith, count)) m;
    })
