-- What a load left, as the code has it.
use mathlib.Core.List.{List}
use mathlib.Core.Path.{◌≡◌, sym, ap, subst, ◌∙◌}
use Prim.Native.Nat.{ℕ, ◌≤◌}
use native.Mathlib.Omega.{arith}
use lib.ListN.{length}
use Rattle.prelude.specs.Part.{Bytes}
use Rattle.schema.specs.declared.answer.Answer.{Answer}
use Rattle.schema.specs.Layout.{closure_length}
use Rattle.schema.specs.Store.{table_in, stores, Result, result_of}
use Rattle.schema.specs.declared.number.TableId.TheVariants.{Classes}
use Rattle.tables.specs.Shaped.{TableShaped}
use Rattle.tables.specs.Filled.{empty_stores}
use Rattle.graph.proofs.FreshLaws.{closure_rows_length}
use Rattle.keeper.specs.Load.{load}
use Rattle.list_text.specs.Listing.{kept_counts, listing, refused_line, loaded_text}
use Rattle.list_text.proofs.ListingLaws.{text_accepted, text_refused, classes_read, accepted_shaped, accepted_closure}

module _ (sheet : List ℕ) {x : Answer} {a c k : List ℕ} (e : result_of x (stores a c k) ≡ load sheet empty_stores) where
  number_is : (load sheet empty_stores).answer.number ≡ x.number
  number_is = sym (ap (λ (r : Result). r.answer.number) e)

  pub loaded_listing : x.number ≡ 0 → loaded_text (load sheet empty_stores) ≡ listing (kept_counts k) (table_in Classes c)
  loaded_listing z = ap loaded_text (sym e) ∙ text_accepted (result_of x (stores a c k)) z

  pub loaded_refused : ¬ (x.number ≡ 0) → loaded_text (load sheet empty_stores) ≡ refused_line x
  loaded_refused d = ap loaded_text (sym e) ∙ text_refused (result_of x (stores a c k)) d

  -- the rows of an accepted sheet can be listed
  pub loaded_shaped : Bytes sheet → x.number ≡ 0 → TableShaped Classes c × (closure_length ≤ length k)
  loaded_shaped b z = (
    subst (λ (r : Result). TableShaped Classes r.left.classes) (sym e) (accepted_shaped sheet (number_is ∙ z) b),
    omega (
      arith,
      ap (λ (r : Result). length r.left.closure) e,
      ap length (accepted_closure sheet (number_is ∙ z)),
      closure_rows_length
          (classes_read sheet),
    ),
  )
