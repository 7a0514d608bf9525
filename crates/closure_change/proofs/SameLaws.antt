-- The closure after a change, and its rule 30, depend on the rows held alone, not on what stands above the count.
use Rattle.std.specs.Prelude.{ℕ, ◌*◌, ◌<◌, Bool, not, ◌&&◌, ◌≡◌, refl}
use Rattle.std.proofs.Math.Bool.{cond}
use mathlib.Core.List.{List}
use Rattle.std.proofs.Math.Path.{ap, ap₂}
use Rattle.prelude.specs.BelowLaws.{any_cong}
use Rattle.prelude.specs.ConcatLaws.{concat_same}
use Rattle.prelude.specs.Part.{same_bytes, splice}
use Rattle.sets.specs.Sets.{member, union}
use Rattle.sets.specs.SetsLaws.{set_cong}
use Rattle.schema.specs.Layout.{closure_width}
use Rattle.schema.specs.Numbers.{class_limit}
use Rattle.schema.specs.Store.{Table, closure_at}
use Rattle.schema.specs.declared.number.TableId.TheVariants.{Attributes, Classes}
use Rattle.tables.specs.Same.{Same}
use Rattle.graph.specs.Graph.{demanded_set}
use Rattle.graph.proofs.SameLaws.{closure_row_same, demanded_same, names_same}
use Rattle.change_read.specs.declared.read.Change.{Change}
use Rattle.change_read.specs.declared.read.Change.TheVariants.{Add, SetRange, Rename, Deactivate, Reactivate, AddEntry, RemoveEntry}
use Rattle.change_read.specs.Carried.{target_of}
use Rattle.closure_change.specs.After.{closure_after, demand_before, demand_changes}
use Rattle.closure_change.specs.Kept.{each_holding, holds, named_sets, new_row, own_row, refreshed_at, row_where, with_new}

module _ {t u : Table} (s : Same t u) where
  refreshed_same : (n k : ℕ) (closure : List ℕ) → refreshed_at t n k closure ≡ refreshed_at u n k closure
  unfolding refreshed_at each_holding row_where
  refreshed_same n k closure =
      ap (λ (rows : List ℕ). splice 0 rows closure)
      (concat_same class_limit _ _ (λ c l. ap (λ (row : List ℕ). cond (holds n k c (closure_at closure c)) row (closure_at closure c)) (closure_row_same s c)))

  new_same : (n : ℕ) (closure : List ℕ) → n < t.count → with_new t n closure ≡ with_new u n closure
  unfolding with_new new_row named_sets
  new_same n closure l =
      ap₂ (λ (named row : List ℕ). splice (closure_width * n) (union named (own_row n row)) closure)
      (set_cong closure_width _ _ (λ b h. any_cong class_limit _ _ (λ y g. ap (λ (x : Bool). x && member (closure_at closure y) b) (names_same s n y l))))
      (s.rows n l)

  pub after_same : (change : Change) (r : List ℕ) (n : ℕ) (closure : List ℕ) → (change ≡ Add Classes → n < t.count)
      → closure_after change r t n closure ≡ closure_after change r u n closure
  after_same (Add Attributes) r n closure h = refl
  after_same (Add Classes) r n closure h = new_same n closure (h refl)
  after_same SetRange r n closure h = refl
  after_same (Rename v) r n closure h = refl
  after_same (Deactivate v) r n closure h = refl
  after_same (Reactivate v) r n closure h = refl
  after_same AddEntry r n closure h = refl
  after_same RemoveEntry r n closure h = refreshed_same n (target_of r) closure

  -- rule 30, with what was kept of the rows before
  pub demand_same : (change : Change) (r : List ℕ) (before : Table) (old closure : List ℕ)
      → demand_changes change r t (demand_before change r before old) closure ≡ demand_changes change r u (demanded_set before (target_of r)) closure
  demand_same (Add v) r before old closure = refl
  demand_same SetRange r before old closure = refl
  demand_same (Rename v) r before old closure = refl
  demand_same (Deactivate v) r before old closure = refl
  demand_same (Reactivate v) r before old closure = refl
  demand_same AddEntry r before old closure = refl
  demand_same RemoveEntry r before old closure = ap (λ (x : List ℕ). not (same_bytes (demanded_set before (target_of r)) x)) (demanded_same s (target_of r))
