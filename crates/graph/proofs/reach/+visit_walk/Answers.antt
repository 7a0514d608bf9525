use mathlib.Core.Bool.{not, ◌&&◌, false}
use mathlib.Core.List.{List}
use mathlib.Core.Path.{◌≡◌, refl, sym, ap, ◌∙◌}
use Prim.Native.Nat.{ℕ, ◌≤◌, ◌<◌}
use native.Mathlib.Omega.{arith}
use lib.ListN.{length, get_or}
use borrow.Author.Rules.{rules}
use mir.Syntax.{w8}
use mir.Val.{Fits}
use Rattle.sets.specs.Sets.{from, member}
use Rattle.sets.specs.SetsLaws.{with_length}
use Rattle.schema.specs.Numbers.{class_limit, class_read}
use Rattle.schema.specs.NumbersLaws.{class_is, class_beyond}
use Rattle.schema.specs.Layout.{class_set}
use Rattle.schema.specs.ClassRow.{superclass_of}
use Rattle.schema.specs.Store.{table_in}
use Rattle.schema.specs.StoreLaws.{table_row_wide}
use Rattle.schema.specs.declared.number.TableId.TheVariants.{Classes}
use Rattle.tables.specs.Named.{lists}
use Rattle.tables.specs.declared.named.ClassList.TheVariants.{Auxiliaries}
use Rattle.graph.proofs.Next.{Found}
use Rattle.graph.proofs.Visit.{next_found, next_none_left, found_late, ClassBytes, unvisited_count, marked_fewer, visit_no_more, visit_absent}
use Rattle.graph.proofs.Visit.{visit_seen, visit_above, visit_beyond, walk_end, walk_on}
use Rattle.graph.proofs.reach.+visit_walk.Goals as goal

pub visit-returns-then-row_count-c : goal.visit-returns-then-row_count-c
visit-returns-then-row_count-c t c =
    let a = c.args in
    let long : length a.seen.bits ≡ class_set = search rules in
    let small : (i : ℕ) → Fits w8 (get_or a.seen.bits i 0) = λ i. search rules in
    let whole : ClassBytes a.seen.bits = record { long = long; bytes = λ i. (small i).fits } in
    visit_absent (table_in Classes a.classes.now) c.requires.few a.c.0 a.seen.bits whole (omega arith)

pub visit-returns-then-has : goal.visit-returns-then-has
visit-returns-then-has t c =
    let a = c.args in
    let long : length a.seen.bits ≡ class_set = search rules in
    let small : (i : ℕ) → Fits w8 (get_or a.seen.bits i 0) = λ i. search rules in
    let whole : ClassBytes a.seen.bits = record { long = long; bytes = λ i. (small i).fits } in
    visit_seen (table_in Classes a.classes.now) c.requires.few a.c.0 a.seen.bits whole
    (sym c.has.ensures ∙ c.if-has.true)

pub visit-superclass-above-requires : goal.visit-superclass-above-requires
visit-superclass-above-requires t c =
    table_row_wide Classes c.args.classes.now _
    c.args.c.0
    c.requires.long (omega arith) c.class_row.ensures

pub visit-walk-requires : goal.visit-walk-requires
visit-walk-requires t c =
    let b = c.args.seen.bits in
    let m = c.with-marked.result.bits in
    let t0 = table_in Classes c.args.classes.now in
    let long : length b ≡ class_set = search rules in
    let z : member b c.args.c.0 ≡ false = sym c.has.ensures
    ∙ c.if-has.false in
    let fewer : unvisited_count m < unvisited_count b = marked_fewer t0 c.requires.few b m c.args.c.0 long (omega arith) z
    c.with-marked.ensures in
    (omega (arith, c.decreases, fewer), (c.requires, omega arith))

pub visit-returns-in_default : goal.visit-returns-in_default
visit-returns-in_default t c =
    let b = c.args.seen.bits in
    let m = c.with-marked.result.bits in
    let t0 = table_in Classes c.args.classes.now in
    let long : length b ≡ class_set = search rules in
    let z : member b c.args.c.0 ≡ false = sym c.has.ensures
    ∙ c.if-has.false in
    let fewer : unvisited_count m < unvisited_count b = marked_fewer t0 c.requires.few b m c.args.c.0 long (omega arith) z
    c.with-marked.ensures in
    let up = superclass_of (t0.row c.args.c.0) in
    let far : class_limit ≤ up = class_beyond up
    (sym (c.superclass-above.ensures
    ∙ ap (λ (r : List ℕ). class_read (superclass_of r)) c.class_row.ensures) ∙ c.in_default.is)
    in
    visit_beyond t0 c.requires.few c.args.c.0 up b m m c.walk.result.bits long (omega arith) z refl
    c.with-marked.ensures c.walk.ensures far refl

pub visit-visit-more-requires : goal.visit-visit-more-requires
visit-visit-more-requires t c =
    let b = c.args.seen.bits in
    let m = c.with-marked.result.bits in
    let t0 = table_in Classes c.args.classes.now in
    let long : length b ≡ class_set = search rules in
    let z : member b c.args.c.0 ≡ false = sym c.has.ensures
    ∙ c.if-has.false in
    let fewer : unvisited_count m < unvisited_count b = marked_fewer t0 c.requires.few b m c.args.c.0 long (omega arith) z
    c.with-marked.ensures in
    (omega (arith, c.decreases, fewer), c.requires)

pub visit-walk-requires-2 : goal.visit-walk-requires-2
visit-walk-requires-2 t c =
    let b = c.args.seen.bits in
    let m = c.with-marked.result.bits in
    let t0 = table_in Classes c.args.classes.now in
    let long : length b ≡ class_set = search rules in
    let z : member b c.args.c.0 ≡ false = sym c.has.ensures
    ∙ c.if-has.false in
    let fewer : unvisited_count m < unvisited_count b = marked_fewer t0 c.requires.few b m c.args.c.0 long (omega arith) z
    c.with-marked.ensures in
    let more = c.visit-more.result.bits in
    let lm : length m ≡ class_set = ap length c.with-marked.ensures ∙ with_length c.args.c.0 b ∙ long in
    let no_more : unvisited_count more ≤ unvisited_count m = visit_no_more t0 c.requires.few m more c.in-Some.up.0 lm
    c.visit-more.ensures in
    (omega (arith, c.decreases, fewer, no_more), (c.requires, omega arith))

pub visit-returns : goal.visit-returns
visit-returns t c =
    let b = c.args.seen.bits in
    let m = c.with-marked.result.bits in
    let t0 = table_in Classes c.args.classes.now in
    let long : length b ≡ class_set = search rules in
    let z : member b c.args.c.0 ≡ false = sym c.has.ensures
    ∙ c.if-has.false in
    let fewer : unvisited_count m < unvisited_count b = marked_fewer t0 c.requires.few b m c.args.c.0 long (omega arith) z
    c.with-marked.ensures in
    let up = superclass_of (t0.row c.args.c.0) in
    let is : (up ≡ c.in-Some.up.0)
    × (up < class_limit) = class_is up c.in-Some.up
    (sym (c.superclass-above.ensures
    ∙ ap (λ (r : List ℕ). class_read (superclass_of r)) c.class_row.ensures)
    ∙ c.in-Some.is) in
    visit_above t0 c.requires.few c.args.c.0 c.in-Some.up.0 b m c.visit-more.result.bits
    c.walk-2.result.bits long (omega arith) z is.0 c.with-marked.ensures
    c.walk-2.ensures c.visit-more.ensures

pub walk-returns-in_default : goal.walk-returns-in_default
walk-returns-in_default t c =
    let a = c.args in
    let long : length a.seen.bits ≡ class_set = search rules in
    let small : (i : ℕ) → Fits w8 (get_or a.seen.bits i 0) = λ i. search rules in
    let whole : ClassBytes a.seen.bits = record { long = long; bytes = λ i. (small i).fits } in
    walk_end (table_in Classes a.classes.now) c.requires.readable.few a.c.0 a.start a.seen.bits whole
    (next_none_left (table_in Classes a.classes.now) a.c.0 a.start a.seen.bits
    (sym c.in_default.is ∙ c.next_unvisited-next.ensures))

pub walk-visit-more-requires : goal.walk-visit-more-requires
walk-visit-more-requires t c =
    let b = c.args.seen.bits in
    let t0 = table_in Classes c.args.classes.now in
    let long : length b ≡ class_set = search rules in
    let d = c.in-Some.d.0 in
    let p = from c.args.start (λ x. lists Auxiliaries (t0.row c.args.c.0) x && not (member b x)) in
    let f : Found t0.count p d = next_found t0 c.args.c.0 c.args.start b c.in-Some.d
    (sym c.in-Some.is ∙ c.next_unvisited-next.ensures) in
    let late : c.args.start ≤ d = found_late t0 c.args.c.0 c.args.start b d f in
    (omega (arith, c.decreases, f.within, late, c.requires.readable.few), c.requires.readable)

pub walk-overflow_add-d : goal.walk-overflow_add-d
walk-overflow_add-d t c =
    let b = c.args.seen.bits in
    let t0 = table_in Classes c.args.classes.now in
    let long : length b ≡ class_set = search rules in
    let d = c.in-Some.d.0 in
    let p = from c.args.start (λ x. lists Auxiliaries (t0.row c.args.c.0) x && not (member b x)) in
    let f : Found t0.count p d = next_found t0 c.args.c.0 c.args.start b c.in-Some.d
    (sym c.in-Some.is ∙ c.next_unvisited-next.ensures) in
    let late : c.args.start ≤ d = found_late t0 c.args.c.0 c.args.start b d f in
    omega (arith, f.within, c.requires.readable.few)

pub walk-walk-requires : goal.walk-walk-requires
walk-walk-requires t c =
    let b = c.args.seen.bits in
    let t0 = table_in Classes c.args.classes.now in
    let long : length b ≡ class_set = search rules in
    let d = c.in-Some.d.0 in
    let p = from c.args.start (λ x. lists Auxiliaries (t0.row c.args.c.0) x && not (member b x)) in
    let f : Found t0.count p d = next_found t0 c.args.c.0 c.args.start b c.in-Some.d
    (sym c.in-Some.is ∙ c.next_unvisited-next.ensures) in
    let late : c.args.start ≤ d = found_late t0 c.args.c.0 c.args.start b d f in
    let no_more : unvisited_count c.visit-more.result.bits ≤ unvisited_count b = visit_no_more t0 c.requires.readable.few b
    c.visit-more.result.bits d long c.visit-more.ensures in
    (omega (arith, c.decreases, f.within, late, no_more, c.requires.readable.few), (c.requires.readable, c.requires.c_bound))

pub walk-returns : goal.walk-returns
walk-returns t c =
    let b = c.args.seen.bits in
    let t0 = table_in Classes c.args.classes.now in
    let long : length b ≡ class_set = search rules in
    let d = c.in-Some.d.0 in
    let p = from c.args.start (λ x. lists Auxiliaries (t0.row c.args.c.0) x && not (member b x)) in
    let f : Found t0.count p d = next_found t0 c.args.c.0 c.args.start b c.in-Some.d
    (sym c.in-Some.is ∙ c.next_unvisited-next.ensures) in
    let late : c.args.start ≤ d = found_late t0 c.args.c.0 c.args.start b d f in
    walk_on t0 c.requires.readable.few c.args.c.0 c.args.start d b c.visit-more.result.bits c.walk.result.bits long
    f.within f.passes f.before c.visit-more.ensures c.walk.ensures
