use mathlib.Core.List.{List}
use mathlib.Core.Path.{sym, ap, ◌∙◌}
use Prim.Native.Nat.{ℕ, ◌+◌}
use native.Mathlib.Nat.{add-zero}
use native.Mathlib.Omega.{arith}
use lib.ListN.{length}
use Rattle.prelude.specs.SpliceLaws.{splice_none}
use Rattle.prelude.specs.Part.{splice}
use Rattle.prelude.specs.BigEndianLaws.{bytes_length}
use Rattle.rows_write.proofs.Listing.{one_entry, no_entry}
use Rattle.rows_write.proofs.entries.write_entry.Goals as goal

pub write_u16-requires : goal.write_u16-requires
write_u16-requires c =
    let n = c.args.n in
    let l = ap length (one_entry n c.has.ensures c.if-not-has.false) ∙ bytes_length 2 n in omega arith

pub returns : goal.returns
returns c =
    let n = c.args.n in
    let e = one_entry n c.has.ensures c.if-not-has.false in (
      ap (λ (k : ℕ). c.args.at + k) (sym (ap length e ∙ bytes_length 2 n)),
      c.write_u16.ensures ∙ ap
          (λ (v : List ℕ). splice c.args.at v c.args.out.now) (sym e),
    )

pub returns-then-not-has : goal.returns-then-not-has
returns-then-not-has c =
    let at = c.args.at in
    let out = c.args.out.now in
    let e = no_entry c.args.n c.has.ensures c.if-not-has.true in
    (sym (ap (λ (v : List ℕ). c.args.at + length v) e ∙ add-zero at), sym (ap (λ (v : List ℕ). splice at v out) e ∙ splice_none at out))
