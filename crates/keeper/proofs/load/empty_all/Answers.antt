use mathlib.Core.Path.{ap, ◌∙◌}
use Prim.Native.Nat.{ℕ}
use Rattle.prelude.specs.Part.{splice, zeros}
use Rattle.schema.specs.Store.{stores}
use Rattle.keeper.specs.Load.{emptied}
use Rattle.keeper.proofs.load.empty_all.Goals as goal

pub returns : goal.returns
unfolding emptied
returns c =
    λ i. stores
    ((c.empty.ensures ∙ ap (λ (n : ℕ). splice 0 (zeros n) c.args.attributes.now) c.store_length.ensures) i)
    ((c.empty-2.ensures ∙ ap (λ (n : ℕ). splice 0 (zeros n) c.args.classes.now) c.store_length-2.ensures) i) (c.empty-3.ensures i)
