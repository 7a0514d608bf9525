use Rattle.std.proofs.Common.{refl, ◌+◌, ◌≤◌, ◌≡◌, ◌∙◌, ◌++◌, List, ℕ, ap, sym, length, append-nil, length-append, arith}
use Rattle.list_text.specs.Text.{decimal}
use Rattle.list_text.specs.Listing.{arc_text}
use Rattle.list_text.proofs.Lines.{put_length, put_then, dot, arc_dotted, dot_later, dot_first}
use Rattle.schema.specs.Row.{arc_of}
use Rattle.list_text.proofs.class.put_arc.Goals as goal
use Rattle.list_text.proofs.class.put_arc.Goals.{then-k-gt0, else-k-gt0}

long : (row : List ℕ) (k : ℕ) {n : ℕ} → n ≡ arc_of row k → length (arc_text row k) ≡ length (dot k) + length (decimal n)
long row k {n} e = ap length (arc_dotted row k e) ∙ length-append (dot k) (decimal n)

none : (k : ℕ) (o : List ℕ) {m : List ℕ} → k ≤ 0 → m ≡ o → m ≡ o ++ dot k
none k o l e = rw (dot_first k l, append-nil, e)

pub put_byte-requires : goal.put_byte-requires
put_byte-requires c =
    omega (arith, c.requires.2, long c.args.row.now c.args.k refl, ap length (dot_later c.args.k c.if-k-gt0.true))

pub put_decimal-requires : goal.put_decimal-requires
put_decimal-requires c =
    let o = c.args.text.now in
    let k = c.args.k in
    let m : c.if-k-gt0.text ≡ o ++ dot k = elim c.if-k-gt0.branch [
      | then-k-gt0 w ↦ w.text-is ∙ w.put_byte.ensures ∙ ap (λ (x : List ℕ). o ++ x) (sym (dot_later k w.if-k-gt0.true))
      | else-k-gt0 w ↦ none k o w.if-k-gt0.false w.text-is
    ] in
    omega (arith, c.requires.2, long c.args.row.now k c.arc.ensures, put_length o (dot k) m)

pub returns : goal.returns
returns c =
    let o = c.args.text.now in
    let k = c.args.k in
    let m : c.if-k-gt0.text ≡ o ++ dot k = elim c.if-k-gt0.branch [
      | then-k-gt0 w ↦ w.text-is ∙ w.put_byte.ensures ∙ ap (λ (x : List ℕ). o ++ x) (sym (dot_later k w.if-k-gt0.true))
      | else-k-gt0 w ↦ none k o w.if-k-gt0.false w.text-is
    ] in
    put_then o (dot k) (decimal c.arc.result) m c.put_decimal.ensures ∙ ap (λ (x : List ℕ). o ++ x) (sym (arc_dotted c.args.row.now k c.arc.ensures))
