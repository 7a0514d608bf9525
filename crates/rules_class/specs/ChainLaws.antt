-- Where rule 18 is met, every chain of superclasses ends at row 0. So no rule of its own asks it: number 22, which did, is not used again.
use Rattle.std.proofs.Common.{⊎_elim, arith}
use Rattle.std.specs.Prelude.{◌≡◌, ℕ, zero, suc, ◌≤◌, ◌<◌}
use Rattle.schema.specs.ClassRow.{superclass_of}
use Rattle.schema.specs.Store.{Table}
use Rattle.tables.specs.Chain.{top, up}
use Rattle.rules_class.specs.Live.{SuperclassEarly}
use Rattle.rules_class.specs.Chain.{ChainEnds}

pub superclass_chain : (t : Table) → ((k : ℕ) → k < t.count → SuperclassEarly k (t.row k)) → (c : ℕ) → c < t.count → ChainEnds t c
superclass_chain t early c l = within c c l (omega arith)
  where
    root : (c : ℕ) → c ≡ 0 → ChainEnds t c
    root c e = record { steps = 0; few = omega arith; chain = rw e top }

    onward : (c : ℕ) → c < t.count → superclass_of (t.row c) < c → ChainEnds t (superclass_of (t.row c)) → ChainEnds t c
    onward c l p w = record { steps = suc w.steps; few = omega (arith, w.few); chain = up {c = c} (λ e. omega (arith, e)) (l, p) w.chain }

    step : (c : ℕ) → c < t.count → (superclass_of (t.row c) < c → ChainEnds t (superclass_of (t.row c))) → ChainEnds t c
    step c l rest = ⊎_elim (λ q. root c q.0) (λ p. onward c l p (rest p)) (early c l)

    within : (n c : ℕ) → c < t.count → c ≤ n → ChainEnds t c
    within zero c l h = root c (omega arith)
    within (suc n) c l h = step c l (λ p. within n (superclass_of (t.row c)) (omega arith) (omega arith))
