-- A store in shape stays so where a well-formed row is put in place, and where one is put last.
use Rattle.std.specs.Prelude.{get_or, length, ◌<◌, ◌≤◌, suc, ℕ, List, ◌≡◌, refl, true}
use Rattle.std.proofs.Common.{arith, ◌∙◌, ap}
use Rattle.std.proofs.Math.Decide.{ℕ_discrete}
use Rattle.schema.specs.declared.number.TableId.TheVariants.{Attributes, Classes}
use Rattle.schema.specs.declared.number.TableId.{TableId}
use Rattle.schema.specs.NumbersLaws.{apart}
use Rattle.schema.specs.Store.{count_in, table_in}
use Rattle.schema.specs.Numbers.{limit}
use Rattle.schema.specs.Layout.{row_width, store_length}
use Rattle.tables_shape.specs.Shape.{TableFormed}
use Rattle.tables.specs.PutLaws.{plus_beside, plus_counted, plus_row_lem, put_byte, put_count, put_here, put_other}
use Rattle.tables.specs.Filled.{plus_in, put_in}
use Rattle.rows_read.specs.WellFormed.{well_formed}

module _ (t : TableId) (s : List ℕ) (long : store_length t ≤ length s) (f : TableFormed t s) (row : List ℕ) (wide : length row ≡ row_width t)
    (formed : well_formed t row ≡ true) where
  -- in place
  module _ (k : ℕ) (there : k < count_in t s) where
    within : k < limit t
    within = omega (arith, f.few)

    put_row_formed : (j : ℕ) → j < count_in t s → Dec (j ≡ k) → well_formed t ((table_in t (put_in t k row s)).row j) ≡ true
    put_row_formed j l (yes e) = ap (λ (x : ℕ). well_formed t ((table_in t (put_in t k row s)).row x)) e ∙ ap (well_formed t) (put_here t k row s long within wide)
        ∙ formed
    put_row_formed j l (no d) = ap (well_formed t) (put_other t k row s long within wide j d) ∙ f.rows j l

    pub put_formed : TableFormed t (put_in t k row s)
    put_formed =
        let count = put_count t k row s long within wide in
        record {
          beside = λ e. put_byte t k row s long within wide 1 (omega arith) ∙ f.beside e;
          few = omega (arith, f.few);
          rows = λ j l. put_row_formed j (omega arith) (ℕ_discrete j k);
          unused = λ j l m. put_other t k row s long within wide j (λ e. omega arith) ∙ f.unused j (omega arith) m;
        }

  -- last
  module _ (room : count_in t s < limit t) where
    plus_row_formed : (j : ℕ) → j < suc (count_in t s) → Dec (j ≡ count_in t s) → well_formed t ((table_in t (plus_in t row s)).row j) ≡ true
    plus_row_formed j l (yes e) =
        ap (well_formed t) (plus_row_lem t row s long room wide j) ∙ ap (λ (x : ℕ). well_formed t ((table_in t (put_in t (count_in t s) row s)).row x)) e
        ∙ ap (well_formed t) (put_here t (count_in t s) row s long room wide) ∙ formed
    plus_row_formed j l (no d) =
        ap (well_formed t) (plus_row_lem t row s long room wide j ∙ put_other t (count_in t s) row s long room wide j d) ∙ f.rows j (omega arith)

    -- the byte beside the count of classes is not written
    beside_stays : (u : TableId) → t ≡ u → u ≡ Classes → get_or (plus_in t row s) 1 0 ≡ 0
    beside_stays Attributes q e = absurd (apart e)
    beside_stays Classes q e = plus_beside t row s long room wide q ∙ f.beside q

    pub plus_formed : TableFormed t (plus_in t row s)
    plus_formed =
        let count = plus_counted t row s long room wide in
        record {
          beside = λ e. beside_stays t refl e;
          few = omega arith;
          rows = λ j l. plus_row_formed j (omega arith) (ℕ_discrete j (count_in t s));
          unused = λ j l m. plus_row_lem t row s long room wide j ∙ put_other t (count_in t s) row s long room wide j (λ e. omega arith)
              ∙ f.unused j (omega arith) m;
        }
