use lib.ListN.{length}
use native.Mathlib.Omega.{arith}
use mathlib.Core.Path.{◌∙◌, ap, sym}
use Rattle.prelude.specs.First.{first_of}
use Rattle.schema.specs.Numbers.{number_of, table_of}
use Rattle.schema.specs.Layout.{row_width}
use Rattle.schema.specs.LayoutLaws.{common_narrow}
use Rattle.schema.specs.Store.{schema_in, table}
use Rattle.tables.specs.ShapedLaws.{shaped_wide, shaped_within}
use Rattle.change_asked.specs.Asked.{target_asked}
use Rattle.change_asked.proofs.asked.target_asked.Goals as goal

pub schema_row-row-requires : goal.schema_row-row-requires
schema_row-row-requires c = (
  c.requires.0.attributes.long,
  c.requires.0.classes.long,
  shaped_within c.requires.0 (table_of c.args.id) (number_of
      c.args.id) c.requires.3,
)

pub state_wrong-requires : goal.state_wrong-requires
state_wrong-requires c =
    rw c.schema_row-row.ensures (omega (
      arith,
      shaped_wide c.requires.0 (table_of c.args.id) (number_of c.args.id) c.requires.3,
      common_narrow (table_of c.args.id),
    ))

pub returns-then-state_wrong : goal.returns-then-state_wrong
unfolding target_asked first_of
returns-then-state_wrong c =
    rw (rw (c.schema_row-row.ensures ∙ ap (λ t. (table t (schema_in c.args.attributes.now c.args.classes.now)).row (number_of
    c.args.id)) c.requires.2) at (sym c.state_wrong.ensures ∙ c.if-state_wrong.true))

pub base_touched-requires : goal.base_touched-requires
base_touched-requires c =
    rw c.schema_row-row.ensures (omega (
      arith,
      shaped_wide c.requires.0 (table_of c.args.id) (number_of c.args.id) c.requires.3,
      common_narrow (table_of c.args.id),
    ))

pub returns-then-base_touched : goal.returns-then-base_touched
unfolding target_asked first_of
returns-then-base_touched c =
    rw (
      rw (c.schema_row-row.ensures ∙ ap (λ t. (table t (schema_in c.args.attributes.now c.args.classes.now)).row (number_of
          c.args.id)) c.requires.2) at (sym c.state_wrong.ensures ∙ c.if-state_wrong.false),
      rw (c.schema_row-row.ensures ∙ ap (λ t. (table t
          (schema_in c.args.attributes.now c.args.classes.now)).row (number_of c.args.id)) c.requires.2) at (sym
          c.base_touched.ensures ∙ c.if-base_touched.true),
    )

pub entry_conflict-requires : goal.entry_conflict-requires
entry_conflict-requires c = (
  c.requires.1,
  ap length c.schema_row-row.ensures ∙ shaped_wide c.requires.0 (table_of c.args.id) (number_of c.args.id)
      c.requires.3 ∙ ap row_width c.requires.2,
)

pub returns-then-entry_conflict : goal.returns-then-entry_conflict
unfolding target_asked first_of
returns-then-entry_conflict c =
    rw (
      rw (c.schema_row-row.ensures ∙ ap (λ t. (table t (schema_in c.args.attributes.now c.args.classes.now)).row (number_of
          c.args.id)) c.requires.2) at (sym c.state_wrong.ensures ∙ c.if-state_wrong.false),
      rw (c.schema_row-row.ensures ∙ ap (λ t. (table t
          (schema_in c.args.attributes.now c.args.classes.now)).row (number_of c.args.id)) c.requires.2) at (sym
          c.base_touched.ensures ∙ c.if-base_touched.false),
      rw (c.schema_row-row.ensures ∙ ap (λ t. (table t (schema_in
          c.args.attributes.now c.args.classes.now)).row (number_of c.args.id)) c.requires.2) at (sym
          c.entry_conflict.ensures ∙ c.if-entry_conflict.true),
    )

pub returns-then-still_needed : goal.returns-then-still_needed
unfolding target_asked first_of
returns-then-still_needed c =
    rw (
      rw (c.schema_row-row.ensures ∙ ap (λ t. (table t (schema_in c.args.attributes.now c.args.classes.now)).row (number_of
          c.args.id)) c.requires.2) at (sym c.state_wrong.ensures ∙ c.if-state_wrong.false),
      rw (c.schema_row-row.ensures ∙ ap (λ t. (table t
          (schema_in c.args.attributes.now c.args.classes.now)).row (number_of c.args.id)) c.requires.2) at (sym
          c.base_touched.ensures ∙ c.if-base_touched.false),
      rw (c.schema_row-row.ensures ∙ ap (λ t. (table t (schema_in
          c.args.attributes.now c.args.classes.now)).row (number_of c.args.id)) c.requires.2) at (sym
          c.entry_conflict.ensures ∙ c.if-entry_conflict.false),
      sym c.still_needed.ensures ∙ c.if-still_needed.true,
    )

pub returns : goal.returns
unfolding target_asked first_of
returns c =
    rw (
      rw (c.schema_row-row.ensures ∙ ap (λ t. (table t (schema_in c.args.attributes.now c.args.classes.now)).row (number_of
          c.args.id)) c.requires.2) at (sym c.state_wrong.ensures ∙ c.if-state_wrong.false),
      rw (c.schema_row-row.ensures ∙ ap (λ t. (table t
          (schema_in c.args.attributes.now c.args.classes.now)).row (number_of c.args.id)) c.requires.2) at (sym
          c.base_touched.ensures ∙ c.if-base_touched.false),
      rw (c.schema_row-row.ensures ∙ ap (λ t. (table t (schema_in
          c.args.attributes.now c.args.classes.now)).row (number_of c.args.id)) c.requires.2) at (sym
          c.entry_conflict.ensures ∙ c.if-entry_conflict.false),
      sym c.still_needed.ensures ∙ c.if-still_needed.false,
    )
