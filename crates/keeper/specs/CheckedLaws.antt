-- What a call knows once its stores were checked: the answer, or that they are in shape and the rest of its answers decides.
use Rattle.std.specs.Prelude.{List, ◌++◌, ◌≡◌, refl}
use Rattle.std.proofs.Common.{sym, ◌∙◌}
use Rattle.schema.specs.declared.number.TableId.TheVariants.{Attributes, Classes}
use Rattle.schema.specs.Store.{Stores}
use Rattle.schema.specs.declared.answer.Answer.{Answer}
use Rattle.schema.specs.Answers.{passed}
use Rattle.tables.specs.Shaped.{Shaped}
use Rattle.graph.specs.Graph.{Readable}
use Rattle.sheet_write.specs.Writing.{Writable}
use Rattle.tables_shape.proofs.ShapeLaws.{says_formed, formed_shaped, formed_readable}
use Rattle.schema.specs.Answering.{first_answer, NoneRefuses}
use Rattle.keeper.specs.InShape.{shape_answers, InShape}
use Rattle.schema.specs.AnsweringLaws.{append_passed, append_refused, number_is, zero_iff_pass}
use Rattle.keeper.specs.InShapeLaws.{shape_passed}

-- ---- the stores

-- what the check of the stores has given
module _ (s : Stores) {r : Answer} (is : r ≡ first_answer (shape_answers s) passed) where
  pub shape_refused : (rest : List Answer) (last : Answer) → ¬ (r.number ≡ 0) → r ≡ first_answer (shape_answers s ++ rest) last
  shape_refused rest last d = is ∙ sym (append_refused (shape_answers s) rest passed last refl (λ z. d (number_is is z)))

  module _ (z : r.number ≡ 0) where
    none_refused : NoneRefuses (shape_answers s)
    none_refused = (zero_iff_pass (shape_answers s) passed refl).0 (number_is (sym is) z)

    pub in_shape : InShape s
    in_shape = shape_passed s none_refused

    pub shape_onward : (rest : List Answer) (last : Answer) → first_answer (shape_answers s ++ rest) last ≡ first_answer rest last
    shape_onward rest last = append_passed (shape_answers s) rest last none_refused

    pub shaped_stores : Shaped s.attributes s.classes
    shaped_stores = formed_shaped s.attributes s.classes in_shape.long.attributes in_shape.long.classes in_shape.formed

    pub readable_classes : Readable s.classes
    readable_classes = formed_readable s.attributes s.classes in_shape.long.attributes in_shape.long.classes in_shape.formed

-- stores in shape can be written
pub writable : (s : Stores) → InShape s → Writable Attributes s.attributes × Writable Classes s.classes
writable s h =
    let f = (says_formed s.attributes s.classes h.long.attributes h.long.classes).holds h.formed in (
      record { long = h.long.attributes; few = f.attributes.few; rows = f.attributes.rows },
      record { long = h.long.classes; few = f.classes.few; rows = f.classes.rows },
    )
