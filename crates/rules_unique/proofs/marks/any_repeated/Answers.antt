use Rattle.rules_unique.proofs.Places.{id_apart, id_marked, id_taken, id_there, none_taken, places_few}
use Rattle.rules_unique.specs.Marks.{key_mark, marks_width, place_count}
use Rattle.rules_unique.proofs.UniqueLaws.{schema_keyed}
use Rattle.tables.specs.ShapedLaws.{shaped_within}
use Rattle.schema.specs.Store.{schema_in}
use Rattle.schema.specs.Numbers.{number_of, place_id, table_of}
use Rattle.sets.specs.SetsLaws.{with_length}
use Rattle.prelude.specs.PartLaws.{zeros_length}
use lib.ListN.{length}
use Prim.Native.Nat.{ℕ, ◌<◌}
use mathlib.Core.Path.{◌≡◌, sym, ap, ◌∙◌}
use native.Mathlib.Omega.{arith}
use Rattle.rules_unique.proofs.marks.any_repeated.Goals as goal

pub loop-p-init : goal.loop-p-init
loop-p-init c =
    (ap length c.requires.1 ∙ zeros_length marks_width, (λ j l. absurd (omega (arith, l)), λ i j l b. absurd (omega (arith, b))))

pub place_id-id-requires : goal.place_id-id-requires
place_id-id-requires c =
    let few = places_few c.args.key (schema_in c.args.attributes.now c.args.classes.now) in (
      omega (arith, c.row_count-first.ensures, c.requires.0.attributes.few),
      omega (arith, c.place_count-count.ensures, c.row_count-first.ensures, few, c.requires.0.classes.few),
    )

pub schema_row-requires : goal.schema_row-requires
schema_row-requires c =
    let m = schema_in c.args.attributes.now c.args.classes.now in
    let id = c.place_id-id.result in
    let is : id ≡ place_id m.attributes.count c.loop-p.p = c.place_id-id.ensures ∙ ap (λ (n : ℕ). place_id n c.loop-p.p) c.row_count-first.ensures in
    let l : c.loop-p.p < place_count c.args.key m = omega (arith, c.loop-p-test.true, c.place_count-count.ensures) in (
      c.requires.0.attributes.long,
      c.requires.0.classes.long,
      shaped_within c.requires.0 (table_of id) (number_of id) (id_there c.args.key m c.loop-p.p is l),
    )

pub key_mark-mark-requires : goal.key_mark-mark-requires
key_mark-mark-requires c =
    let m = schema_in c.args.attributes.now c.args.classes.now in
    let id = c.place_id-id.result in
    let is : id ≡ place_id m.attributes.count c.loop-p.p = c.place_id-id.ensures ∙ ap (λ (n : ℕ). place_id n c.loop-p.p) c.row_count-first.ensures in
    let l : c.loop-p.p < place_count c.args.key m = omega (arith, c.loop-p-test.true, c.place_count-count.ensures) in
    rw c.schema_row.ensures (schema_keyed c.requires.0 (table_of id) (number_of id) (id_there c.args.key m c.loop-p.p is l))

pub is_repeated-requires : goal.is_repeated-requires
is_repeated-requires c =
    let m = schema_in c.args.attributes.now c.args.classes.now in
    let is : c.place_id-id.result ≡ place_id m.attributes.count c.loop-p.p =
    c.place_id-id.ensures ∙ ap (λ (n : ℕ). place_id n c.loop-p.p) c.row_count-first.ensures in
    let l : c.loop-p.p < place_count c.args.key m = omega (arith, c.loop-p-test.true, c.place_count-count.ensures) in
    (c.requires.0, id_there c.args.key m c.loop-p.p is l)

pub returns-then-is_repeated : goal.returns-then-is_repeated
returns-then-is_repeated c =
    let m = schema_in c.args.attributes.now c.args.classes.now in
    let is : c.place_id-id.result ≡ place_id m.attributes.count c.loop-p.p =
    c.place_id-id.ensures ∙ ap (λ (n : ℕ). place_id n c.loop-p.p) c.row_count-first.ensures in
    let l : c.loop-p.p < place_count c.args.key m = omega (arith, c.loop-p-test.true, c.place_count-count.ensures) in
    sym
    (id_taken c.args.key m c.loop-p.p is l c.loop-p.marks (c.key_mark-mark.ensures ∙ ap (key_mark c.args.key) c.schema_row.ensures)
    (sym c.is_repeated.ensures ∙ c.if-is_repeated.true))

pub loop-p-preserved : goal.loop-p-preserved
loop-p-preserved c =
    let m = schema_in c.args.attributes.now c.args.classes.now in
    let is : c.place_id-id.result ≡ place_id m.attributes.count c.loop-p.p =
    c.place_id-id.ensures ∙ ap (λ (n : ℕ). place_id n c.loop-p.p) c.row_count-first.ensures in
    let l : c.loop-p.p < place_count c.args.key m = omega (arith, c.loop-p-test.true, c.place_count-count.ensures) in
    let its = c.key_mark-mark.ensures ∙ ap (key_mark c.args.key) c.schema_row.ensures in (
      ap length c.insert.ensures ∙ with_length _ c.loop-p.marks ∙ c.loop-p.invariant.0,
      (
        id_marked c.args.key m c.loop-p.p is l c.loop-p.marks its c.loop-p.invariant.0 c.insert.ensures c.loop-p.invariant.1.0,
        id_apart c.args.key m c.loop-p.p is l c.loop-p.marks its (sym c.is_repeated.ensures ∙ c.if-is_repeated.false) c.loop-p.invariant.1.0
            c.loop-p.invariant.1.1,
      ),
    )

pub returns : goal.returns
returns c =
    let m = schema_in c.args.attributes.now c.args.classes.now in
    let e : place_count c.args.key m ≡ c.loop-p.p = omega (arith, c.place_count-count.ensures) in
    sym (none_taken c.args.key m (rw e c.loop-p.invariant.1.1))
