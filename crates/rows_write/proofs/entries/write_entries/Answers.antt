use mathlib.Core.List.{List}
use mathlib.Core.Path.{◌≡◌, refl, sym, ap, ◌∙◌}
use Prim.Native.Nat.{ℕ, ◌+◌, ◌*◌}
use native.Mathlib.Nat.{add-zero}
use native.Mathlib.Omega.{arith}
use lib.ListN.{length, length-append}
use Rattle.prelude.specs.SpliceLaws.{splice_none, write_turn}
use Rattle.prelude.specs.Part.{splice}
use Rattle.sets.specs.Sets.{member, list_below}
use Rattle.rows_format.specs.Entries.{entry_bytes}
use Rattle.rows_write.proofs.Listing.{entries_none, entries_more, entries_fit, entries_all}
use Rattle.rows_write.proofs.entries.write_entries.Goals as goal

pub loop-n-init : goal.loop-n-init
loop-n-init c =
    let cell = c.args.cell.now in
    let at = c.args.at in
    let out = c.args.out.now in
    let x = entries_none (member cell) in
    record {
      long = refl;
      place = sym (ap (λ (v : List ℕ). c.args.at + length v) x ∙ add-zero at);
      same = sym
          (ap (λ (v : List ℕ). splice at v out) x ∙ splice_none at out);
    }

pub write_entry-to-requires : goal.write_entry-to-requires
write_entry-to-requires c =
    let cell = c.args.cell.now in
    let m = ap length (entries_more (member cell) c.loop-n.n) ∙ length-append (entry_bytes (list_below c.loop-n.n (member cell))) _ in let k =
    entries_fit (member cell) (c.loop-n.n + 1) (length cell * 8) (omega arith) in
    (omega arith, omega (arith, m, k, c.loop-n.invariant.place, c.loop-n.invariant.long, ap (λ (xs : List ℕ). length (entry_bytes xs)) (entries_all cell)))

pub loop-n-preserved : goal.loop-n-preserved
loop-n-preserved c =
    let cell = c.args.cell.now in
    let at = c.args.at in
    let out = c.args.out.now in
    let x = entry_bytes (list_below c.loop-n.n (member cell)) in
    let m = entries_more (member cell) c.loop-n.n in let lm = ap length m ∙ length-append x _ in let k = entries_fit (member cell)
    (c.loop-n.n + 1) (length cell * 8) (omega arith) in record {
      long = c.write_entry-to.auto.out ∙ c.loop-n.invariant.long;
      place = c.write_entry-to.ensures.0 ∙ omega
          (arith, lm, c.loop-n.invariant.place);
      same = c.write_entry-to.ensures.1 ∙ write_turn at c.loop-n.to x _ out c.loop-n.out
          (omega (arith, lm, k, ap (λ (xs : List ℕ). length (entry_bytes xs)) (entries_all cell))) c.loop-n.invariant.place c.loop-n.invariant.same ∙ ap
          (λ (v : List ℕ). splice at v out) (sym m);
    }

pub returns : goal.returns
returns c =
    let cell = c.args.cell.now in
    let at = c.args.at in
    let out = c.args.out.now in
    let e : c.loop-n.n ≡ length cell * 8 = omega arith in c.loop-n.invariant.same ∙ ap
    (λ (k : ℕ). splice at (entry_bytes (list_below k (member cell))) out) e ∙ ap (λ (xs : List ℕ). splice at (entry_bytes xs) out) (entries_all cell)
