use mathlib.Core.List.{List}
use mathlib.Core.Path.{◌≡◌, refl, sym, ap, ◌∙◌}
use Prim.Native.Nat.{◌+◌, ◌*◌, ℕ}
use native.Mathlib.Omega.{arith}
use lib.ListN.{drop}
use Rattle.sets.specs.Sets.{set_of}
use Rattle.prelude.specs.Unlike.{among}
use Rattle.rows_format.specs.Entries.{entries}
use Rattle.rows_read.proofs.Entering.{insert_begin, insert_all, insert_turn, insert_done, within_rest}
use Rattle.rows_read.proofs.entries.store_entries.Goals as goal

pub loop-k-init : goal.loop-k-init
loop-k-init c =
    let b = insert_begin c.args.v.now c.args.cell.now c.clear.new.d c.requires.1 c.clear.ensures in record
    { long = refl; small = b.0; same = b.1 }

pub loop-k-preserved : goal.loop-k-preserved
loop-k-preserved c =
    let v = c.args.v.now in
    let e : 2 * (c.loop-k.k + 1) ≡ 2 * c.loop-k.k + 2 = omega arith in
    record {
      long = c.insert.auto.s ∙ c.loop-k.invariant.long;
      small = rw e (within_rest
          (2 * c.loop-k.k) c.read_u16.result v c.loop-k.cell (omega arith) c.read_u16.ensures _ c.loop-k.invariant.small);
      same = rw e (ap
          (λ (x : List ℕ). insert_all x (entries (drop ((2 * c.loop-k.k) + 2) v))) c.insert.ensures ∙ sym
          (insert_turn (2 * c.loop-k.k) c.read_u16.result v c.loop-k.cell (omega arith) c.read_u16.ensures) ∙ c.loop-k.invariant.same);
    }

pub returns : goal.returns
returns c =
    let v = c.args.v.now in
    sym (insert_done (2 * c.loop-k.k) v c.loop-k.cell (omega arith)) ∙ c.loop-k.invariant.same ∙ ap (λ (n : ℕ). set_of n (among (entries v)))
    c.clear.auto.d
