use Rattle.std.proofs.Common.{◌≡◌, ℕ, ◌∙◌, List, ◌++◌, ap, sym, arith}
use Rattle.prelude.specs.Concat.{concat_below}
use Rattle.schema.specs.declared.number.TableId.TheVariants.{Classes}
use Rattle.schema.specs.Store.{table_in}
use Rattle.list_text.specs.Listing.{kept_counts, class_line, class_lines}
use Rattle.list_text.proofs.Lines.{put_none, put_more, put_room}
use Rattle.list_text.proofs.class.put_classes.Goals as goal

abbrev line : List ℕ → List ℕ → ℕ → List ℕ
line classes closure = class_line (kept_counts closure) (table_in Classes classes)

-- by the count that was read
lines : (classes closure : List ℕ) {n : ℕ} → n ≡ (table_in Classes classes).count → class_lines (kept_counts closure) (table_in Classes classes)
    ≡ concat_below n (line classes closure)
unfolding class_lines
lines classes closure e = rw e

pub row_count-n-requires : goal.row_count-n-requires
row_count-n-requires c =
    c.requires.0.long

pub loop-c-init : goal.loop-c-init
loop-c-init c =
    put_none c.args.text.now (line c.args.classes.now c.args.closure.now)

pub class_at-requires : goal.class_at-requires
class_at-requires c =
    omega (arith, c.requires.0.few, c.row_count-n.ensures)

pub put_class-requires : goal.put_class-requires
put_class-requires c =
    let e = lines c.args.classes.now c.args.closure.now c.row_count-n.ensures in
    rw c.class_at.ensures (
      record {
        classes_long = c.requires.0.long;
        closure_long = c.requires.1;
        below = omega (arith, c.requires.0.few, c.row_count-n.ensures);
        bounded = c.requires.0.bounded c.loop-c.c (omega (arith, c.row_count-n.ensures));
      },
      put_room c.args.text.now (line c.args.classes.now c.args.closure.now) c.loop-c.c c.loop-c.invariant c.row_count-n.result _
          (omega arith) (rw e at c.requires.2),
    )

pub loop-c-preserved : goal.loop-c-preserved
loop-c-preserved c =
    put_more c.args.text.now (line c.args.classes.now c.args.closure.now) c.loop-c.c c.loop-c.invariant (rw c.class_at.ensures at c.put_class.ensures)

pub returns : goal.returns
returns c =
    let classes = c.args.classes.now in
    let closure = c.args.closure.now in
    let k : c.loop-c.c ≡ c.row_count-n.result = omega arith in
    c.loop-c.invariant
    ∙ ap (λ (x : List ℕ). c.args.text.now ++ x)
    (ap (λ (j : ℕ). concat_below j (line classes closure)) k ∙ sym (lines classes closure c.row_count-n.ensures))
