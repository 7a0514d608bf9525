-- What write and depth give.
use Rattle.std.specs.Prelude.{List, ◌≡◌, refl, ◌<◌, ◌≤◌, ℕ, length}
use Rattle.std.proofs.Common.{ap, sym, ◌∙◌, arith}
use Rattle.prelude.specs.Part.{splice}
use Rattle.prelude.specs.SaysLaws.{says_eq, says_false, says_true}
use Rattle.schema.specs.Answers.{class_answer, done, passed, refused, short_output}
use Rattle.schema.specs.Numbers.{class_read}
use Rattle.schema.specs.NumbersLaws.{class_beyond}
use Rattle.schema.specs.Store.{LongEnough, Schema, Stores, schema_of}
use Rattle.schema.specs.StoreLaws.{says_short}
use Rattle.tables.specs.ChainLaws.{chain_map}
use Rattle.graph.specs.Depth.{EarlierChain, depth_answer}
use Rattle.graph.specs.DepthLaws.{chain_depth, late_no_chain}
use Rattle.rules_class.specs.Chain.{ChainEnds}
use Rattle.rules_class.specs.ChainLaws.{superclass_chain}
use Rattle.rules.specs.declared.row.Added.{Added}
use Rattle.rules.specs.declared.row.Added.TheVariants.{Nothing}
use Rattle.rules.specs.Meets.{Met, class_not_live}
use Rattle.tables_shape.proofs.ShapeLaws.{says_formed}
use Rattle.schema.specs.Answering.{first_answer}
use Rattle.keeper.specs.InShape.{shape_answers}
use Rattle.keeper.specs.InShapeLaws.{broken_stores, formed_stores, not_short, short_stores}
use Rattle.keeper.specs.CheckedLaws.{readable_classes}
use Rattle.keeper.specs.Depth.{depth}
use Rattle.keeper.specs.Write.{sheet_of, write, write_answer, written}
use Rattle.keeper_promises.specs.Promises.{Shape, SomeShort}
use Rattle.keeper_promises.specs.OrderLaws.{has_shape}
use Rattle.schema.specs.Refusals as refusal
use Rattle.keeper.specs.EndLaws as ends
use Rattle.schema.specs.declared.number.ClassNumber.{ClassNumber}
use Rattle.std.specs.Prelude.{Option, Some, None}

-- what the check of the stores gives: that they are short, that their shape is broken, or neither
module _ (s : Stores) where
  short : SomeShort s → refused refusal.short_store ≡ first_answer (shape_answers s) passed
  short e = short_stores s (says_true (says_short s) e)

  broken : LongEnough s → ¬ Shape s → refused refusal.broken_shape ≡ first_answer (shape_answers s) passed
  broken h d = broken_stores s (not_short s h) (says_false (says_formed s.attributes s.classes h.attributes h.classes) d)

  shaped : LongEnough s → Shape s → passed ≡ first_answer (shape_answers s) passed
  shaped h f = formed_stores s (not_short s h) (has_shape s h f).formed

-- ---- write

module _ (s : Stores) (out : List ℕ) where
  pub write_one : SomeShort s → write s out ≡ written (refused refusal.short_store) out
  write_one e = sym (ends.write_refused s out (short s e) (λ z. omega arith))

  pub write_two : LongEnough s → ¬ Shape s → write s out ≡ written (refused refusal.broken_shape) out
  write_two h d = sym (ends.write_refused s out (broken s h d) (λ z. omega arith))

  module _ (h : LongEnough s) (f : Shape s) where
    pub write_done : length (sheet_of s) ≤ length out → write s out ≡ written (done (length (sheet_of s))) (splice 0 (sheet_of s) out)
    write_done l = sym (ends.write_done s out (shaped s h f) (length (sheet_of s)) _ _ refl refl refl l refl)

    pub write_needs : length out < length (sheet_of s) → write s out ≡ written (short_output (length (sheet_of s))) out
    write_needs l = sym (ends.write_short s out (shaped s h f) (length (sheet_of s)) refl refl l)

  pub write_kept : ¬ ((write s out).answer.number ≡ 0) → (write s out).output ≡ out
  unfolding write
  write_kept d = rw (says_false (says_eq (write_answer s out).number 0) d)

-- ---- depth

module _ (s : Stores) (c : ℕ) where
  pub depth_one : SomeShort s → depth s c ≡ refused refusal.short_store
  depth_one e = sym (ends.depth_refused s c (short s e) (λ z. omega arith))

  pub depth_two : LongEnough s → ¬ Shape s → depth s c ≡ refused refusal.broken_shape
  depth_two h d = sym (ends.depth_refused s c (broken s h d) (λ z. omega arith))

  module _ (h : LongEnough s) (f : Shape s) where
    pub depth_five : (schema_of s).classes.count ≤ c → depth s c ≡ refused refusal.no_such_row
    depth_five l = sym (ends.depth_absent s c (shaped s h f) refl l)

    pub depth_beyond : ¬ ((class_answer (class_read c)).number ≡ 0) → depth s c ≡ class_answer (class_read c)
    depth_beyond = go (class_read c) refl
      where
        go : (r : Option ClassNumber) → class_read c ≡ r → ¬ ((class_answer r).number ≡ 0) → depth s c ≡ class_answer r
        go (Some k) e d = absurd (d refl)
        go None e d = depth_five (omega (arith, class_beyond c e, (readable_classes s (shaped s h f) refl).few))

    pub depth_steps : (k : ℕ) → c < (schema_of s).classes.count → EarlierChain (schema_of s).classes c k → depth s c ≡ done k
    depth_steps k l chain = sym (ends.depth_present s c (shaped s h f) refl l) ∙ ap depth_answer (chain_depth (schema_of s).classes chain)

    pub depth_late : c < (schema_of s).classes.count → ((k : ℕ) → ¬ EarlierChain (schema_of s).classes c k) → depth s c ≡ refused refusal.class_not_live
    depth_late l none = sym (ends.depth_present s c (shaped s h f) refl l) ∙ ap depth_answer ((late_no_chain (schema_of s).classes c).1 none)

-- ---- depth where rule 18 is met

pub chain_ends : (added : Added) (m : Schema) → Met added class_not_live m → (c : ℕ) → c < m.classes.count → ChainEnds m.classes c
chain_ends added m h = superclass_chain m.classes h.1

pub depth_order : (s : Stores) (c : ℕ) → LongEnough s → Shape s → Met Nothing class_not_live (schema_of s) → c < (schema_of s).classes.count
    → (ends : ChainEnds (schema_of s).classes c) × (depth s c ≡ done ends.steps)
depth_order s c long shape met l =
    let e = chain_ends Nothing (schema_of s) met c l in
    (e, depth_steps s c long shape e.steps l (chain_map (λ x p. p.1) e.chain))
