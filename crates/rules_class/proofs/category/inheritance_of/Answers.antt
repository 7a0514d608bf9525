use Prim.Native.Nat.{ℕ}
use mathlib.Core.List.{List}
use mathlib.Core.Path.{sym, ap, ◌∙◌}
use native.Mathlib.Omega.{arith}
use Rattle.schema.specs.NumbersLaws.{class_is, class_beyond}
use Rattle.schema.specs.Numbers.{class_read}
use Rattle.schema.specs.ClassRow.{superclass_of}
use Rattle.schema.specs.declared.number.TableId.TheVariants.{Classes}
use Rattle.schema.specs.Store.{table_in}
use Rattle.tables.specs.ShapedLaws.{table_wide}
use Rattle.rules_class.proofs.CategoryLaws.{inheritance_root, inheritance_lost, inheritance_at}
use Rattle.rules_class.proofs.category.inheritance_of.Goals as goal

pub category-requires : goal.category-requires
category-requires c =
    omega (arith, table_wide c.requires.0 c.class_row-row.ensures c.requires.1)

pub superclass-requires : goal.superclass-requires
superclass-requires c =
    omega (arith, table_wide c.requires.0 c.class_row-row.ensures c.requires.1)

pub category-requires-2 : goal.category-requires-2
category-requires-2 c =
    omega (arith, table_wide c.requires.0 c.class_row-row.ensures c.requires.1)

pub category-requires-3 : goal.category-requires-3
category-requires-3 c =
    omega (arith, table_wide c.requires.0 c.class_row.ensures (omega (arith, c.row_count.ensures, c.if-row_count-s.false)))

pub returns-then-c-eq0 : goal.returns-then-c-eq0
returns-then-c-eq0 c =
    rw (
      inheritance_root (table_in Classes c.args.classes.now) c.args.c.0 c.if-c-eq0.true,
      ← c.class_row-row.ensures,
      ←
          c.category.ensures,
    )
    c.root_inheritance.ensures

pub returns-in_err-s : goal.returns-in_err-s
returns-in_err-s c =
    let classes = c.args.classes.now in
    c.from_residual.ensures
    ∙ sym (inheritance_lost (table_in Classes classes) c.args.c.0 c.if-c-eq0.false
    (omega (
      arith,
      c.requires.0.few,
      class_beyond (superclass_of ((table_in Classes classes).row c.args.c.0))
          (ap (λ (l : List ℕ). class_read (superclass_of l)) (sym c.class_row-row.ensures) ∙ sym c.superclass.ensures ∙ c.in_err-s.was),
    )))

pub returns-then-row_count-s : goal.returns-then-row_count-s
returns-then-row_count-s c =
    let classes = c.args.classes.now in
    sym
    (inheritance_lost (table_in Classes classes) c.args.c.0 c.if-c-eq0.false
    (omega (
      arith,
      c.row_count.ensures,
      c.if-row_count-s.true,
      (class_is (superclass_of ((table_in Classes classes).row c.args.c.0)) c.in_ok-s.s
          (ap (λ (l : List ℕ). class_read (superclass_of l)) (sym c.class_row-row.ensures) ∙ sym c.superclass.ensures ∙ c.in_ok-s.was)).0,
    )))

pub returns : goal.returns
returns c =
    let classes = c.args.classes.now in
    rw (
      inheritance_at (table_in Classes classes) c.args.c.0 c.if-c-eq0.false c.in_ok-s.s.0
          (class_is (superclass_of ((table_in Classes classes).row c.args.c.0)) c.in_ok-s.s
          (ap (λ (l : List ℕ). class_read (superclass_of l)) (sym c.class_row-row.ensures) ∙ sym c.superclass.ensures ∙ c.in_ok-s.was)).0
          (omega (arith, c.row_count.ensures, c.if-row_count-s.false)),
      ← c.class_row-row.ensures,
      ← c.category-2.ensures,
      ← c.class_row.ensures,
      ← c.category-3.ensures,
    )
    c.inheritance_under.ensures
