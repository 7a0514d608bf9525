use Rattle.std.proofs.Common.{◌≡◌, ℕ, ◌∙◌, List, ◌++◌, ap, sym, arith}
use Rattle.prelude.specs.Concat.{concat_below}
use Rattle.schema.specs.Row.{arc_count}
use Rattle.list_text.specs.Listing.{arc_text, identifier_text}
use Rattle.list_text.proofs.Lines.{put_none, put_more, put_room}
use Rattle.list_text.proofs.class.put_identifier.Goals as goal

-- by the number of arcs that was read
arcs : (row : List ℕ) {n : ℕ} → n ≡ arc_count row → identifier_text row ≡ concat_below n (arc_text row)
unfolding identifier_text
arcs row e = rw e

pub loop-k-init : goal.loop-k-init
loop-k-init c =
    put_none c.args.text.now (arc_text c.args.row.now)

pub put_arc-requires : goal.put_arc-requires
put_arc-requires c =
    let e = arcs c.args.row.now c.arc_count-n.ensures in (
      c.requires.0,
      omega (arith, c.requires.1, c.arc_count-n.ensures),
      put_room c.args.text.now (arc_text c.args.row.now) c.loop-k.k c.loop-k.invariant c.arc_count-n.result _ (omega arith) (rw e at c.requires.2),
    )

pub loop-k-preserved : goal.loop-k-preserved
loop-k-preserved c =
    put_more c.args.text.now (arc_text c.args.row.now) c.loop-k.k c.loop-k.invariant c.put_arc.ensures

pub returns : goal.returns
returns c =
    let row = c.args.row.now in
    let k : c.loop-k.k ≡ c.arc_count-n.result = omega arith in
    c.loop-k.invariant ∙ ap (λ (x : List ℕ). c.args.text.now ++ x) (ap (λ (j : ℕ). concat_below j (arc_text row)) k ∙ sym (arcs row c.arc_count-n.ensures))
