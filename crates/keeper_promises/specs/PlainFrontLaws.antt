-- A plain change looks at the first bytes of the stores alone, touches no other, and leaves bytes. With that, a schema that was changed, written and
-- loaded again is the same schema.
use Rattle.change_model.proofs.SameLaws.{answer_same}
use Rattle.rules.specs.declared.row.Added.TheVariants.{Nothing}
use Rattle.rules.proofs.SameLaws.{judged_same}
use Rattle.std.proofs.Math.Dec.{eqb}
use Rattle.keeper_promises.specs.RoundTripLaws.{write_load}
use Rattle.schema.specs.Answers.{passed}
use Rattle.std.specs.Prelude.{Bool, not, ◌&&◌, drop, length, ℕ, ◌≤◌, List, ◌∷◌, [], ◌≡◌, refl}
use Rattle.std.proofs.Math.Decide.{ℕ_discrete}
use Rattle.schema.specs.declared.number.TableId.TheVariants.{Attributes, Classes}
use Rattle.keeper.specs.Load.{load}
use Rattle.keeper.specs.Order.{in_order}
use Rattle.change_model.specs.ModelLaws.{asked_zero}
use Rattle.keeper_promises.specs.AlikeLaws.{same_rows, answers_alike, same_fresh}
use Rattle.std.proofs.Common.{arith, ap, sym, ◌∙◌, subst, subst₂}
use Rattle.change_rows.specs.BytesLaws.{after_bytes}
use Rattle.change_rows.specs.FrontLaws.{after_past, after_front}
use Rattle.keeper_promises.specs.PlainLaws.{zero_order, plain_kept, plain_zero, number_is, left_made, plain_ordered}
use Rattle.graph.proofs.SameLaws.{closure_rows_same}
use Rattle.graph.proofs.FreshLaws.{closure_rows_length}
use Rattle.keeper_change.specs.MadeLaws.{made_applicable, made_length, made_shape}
use Rattle.keeper.specs.Write.{sheet_of, write}
use Rattle.schema.specs.declared.answer.Answer.{Answer}
use Rattle.keeper_promises.specs.OrderLaws.{order_shape}
use Rattle.change_read.specs.Reading.{read_change}
use Rattle.change_rows.specs.Stores.{Applicable, store_after}
use Rattle.change_asked.specs.Asked.{first_asked}
use Rattle.change_rows.specs.Rows.{table_for}
use Rattle.keeper_change.specs.Plain.{plain_change, plain_read, plain_answer}
use Rattle.change_read.specs.ChangeRead.{ChangeRead}
use Rattle.graph.specs.Graph.{closure_rows}
use Rattle.change_read.specs.ChangeLaws.{Reads, change_bytes_lem}
use Rattle.schema.specs.Layout.{store_length, closure_length}
use Rattle.schema.specs.Answering.{first_answer, refused_if}
use Rattle.keeper.specs.InShape.{InShape}
use Rattle.prelude.specs.Part.{Bytes, part}
use Rattle.keeper_promises.specs.BytesLaws.{closure_rows_bytes}
use Rattle.prelude.specs.BytesLaws.{splice_bytes}
use Rattle.keeper_promises.specs.Promises.{Alike, OfBytes, SamePast, moved}
use Rattle.keeper_change.specs.Made.{refreshed, rows_made}
use Rattle.schema.specs.Store.{Stores, LongEnough, with_store, table_store, schema_of, result_of}
use Rattle.change_read.specs.declared.read.Change.{Change}
use Rattle.schema.specs.declared.number.TableId.{TableId}
use Rattle.std.proofs.Math.Path.{ap₂}
use Rattle.keeper_promises.specs.FrontLaws as front
use Rattle.schema.specs.Refusals as refusal

-- ---- the store of one table replaced

past_with : (t : TableId) (new : List ℕ) (s : Stores) → drop (store_length t) new ≡ drop (store_length t) (table_store t s) → SamePast (with_store t new s) s
past_with Attributes new s e = record { attributes = e; classes = refl; closure = refl }
past_with Classes new s e = record { attributes = refl; classes = e; closure = refl }

alike_with : (t : TableId) (new other : List ℕ) (a b : Stores) → Alike a b → store_length t ≤ length new → store_length t ≤ length other
    → part 0 (store_length t) new ≡ part 0 (store_length t) other → Alike (with_store t new a) (with_store t other b)
alike_with Attributes new other a b h p q e = record {
  left = record { attributes = p; classes = h.left.classes; closure = h.left.closure };
  right = record { attributes = q; classes = h.right.classes; closure = h.right.closure };
  attributes = e;
  classes = h.classes;
  closure = h.closure;
}
alike_with Classes new other a b h p q e = record {
  left = record { attributes = h.left.attributes; classes = p; closure = h.left.closure };
  right = record { attributes = h.right.attributes; classes = q; closure = h.right.closure };
  attributes = h.attributes;
  classes = e;
  closure = h.closure;
}

bytes_with : (t : TableId) (new : List ℕ) (s : Stores) → OfBytes s → Bytes new → OfBytes (with_store t new s)
bytes_with Attributes new s b n = record { attributes = n; classes = b.classes; closure = b.closure }
bytes_with Classes new s b n = record { attributes = b.attributes; classes = n; closure = b.closure }

table_alike : (t : TableId) (a b : Stores) → Alike a b → part 0 (store_length t) (table_store t a) ≡ part 0 (store_length t) (table_store t b)
table_alike Attributes a b h = h.attributes
table_alike Classes a b h = h.classes

table_bytes : (t : TableId) (s : Stores) → OfBytes s → Bytes (table_store t s)
table_bytes Attributes s b = b.attributes
table_bytes Classes s b = b.classes

-- ---- a change made in its table

module _ (change : Change) (x r : List ℕ) (bytes : Bytes x) (reads : Reads x change r) where
  abbrev of : TableId
  of = table_for change

  abbrev Allowed : Stores → Type 0
  Allowed s = InShape s × (first_asked change r (schema_of s) ≡ 0)

  applicable : (s : Stores) → Allowed s → Applicable change r (table_store of s)
  applicable s ok = made_applicable change x r s bytes reads ok.0 ok.1

  pub made_past : (s : Stores) → Allowed s → SamePast (rows_made change r s) s
  unfolding rows_made
  made_past s ok = past_with of (store_after change r (table_store of s)) s (after_past change r (table_store of s) (applicable s ok))

  pub made_bytes : (s : Stores) → Allowed s → OfBytes s → OfBytes (rows_made change r s)
  unfolding rows_made
  made_bytes s ok b =
      bytes_with of (store_after change r (table_store of s)) s b
      (after_bytes change r (table_store of s) (applicable s ok) (change_bytes_lem x change r bytes reads) (table_bytes of s b))

  long_after : (s : Stores) → Allowed s → store_length of ≤ length (store_after change r (table_store of s))
  long_after s ok = omega (arith, made_length change x r s bytes reads ok.0 ok.1, (applicable s ok).long)

  pub made_alike : (a b : Stores) → Alike a b → Allowed a → Allowed b → Alike (rows_made change r a) (rows_made change r b)
  unfolding rows_made
  made_alike a b h p q =
      alike_with of (store_after change r (table_store of a)) (store_after change r (table_store of b)) a b h (long_after a p) (long_after b q)
      (after_front change r (table_store of a) (table_store of b) (applicable a p) (applicable b q) (table_alike of a b h))

-- ---- the closure worked out afresh

rows_fit : (s : Stores) → length (closure_rows (schema_of s).classes) ≡ closure_length
rows_fit s = closure_rows_length (schema_of s).classes

refreshed_past : (s : Stores) → LongEnough s → SamePast (refreshed s) s
unfolding refreshed
refreshed_past s h = record {
  attributes = refl;
  classes = refl;
  closure = front.put_past closure_length (closure_rows (schema_of s).classes) s.closure (rows_fit s) h.closure;
}

refreshed_long : (s : Stores) → LongEnough s → LongEnough (refreshed s)
unfolding refreshed
refreshed_long s h = record {
  attributes = h.attributes;
  classes = h.classes;
  closure = front.put_long closure_length (closure_rows (schema_of s).classes) s.closure (rows_fit s) h.closure;
}

refreshed_alike : (a b : Stores) → InShape a → Alike a b → Alike (refreshed a) (refreshed b)
unfolding refreshed
refreshed_alike a b i h = record {
  left = refreshed_long a h.left;
  right = refreshed_long b h.right;
  attributes = h.attributes;
  classes = h.classes;
  closure = front.put_front closure_length (closure_rows (schema_of a).classes) a.closure (rows_fit a) h.left.closure
      ∙ closure_rows_same (same_rows a b h i Classes)
      ∙ sym (front.put_front closure_length (closure_rows (schema_of b).classes) b.closure (rows_fit b) h.right.closure);
}

refreshed_bytes : (s : Stores) → OfBytes s → OfBytes (refreshed s)
unfolding refreshed
refreshed_bytes s b = record {
  attributes = b.attributes;
  classes = b.classes;
  closure = splice_bytes 0 (closure_rows (schema_of s).classes) s.closure (closure_rows_bytes (schema_of s).classes) b.closure;
}

-- ---- the call

pub past_reflexive : (s : Stores) → SamePast s s
past_reflexive s = record { attributes = refl; classes = refl; closure = refl }

past_trans : (a b c : Stores) → SamePast a b → SamePast b c → SamePast a c
past_trans a b c p q = record {
  attributes = p.attributes ∙ q.attributes;
  classes = p.classes ∙ q.classes;
  closure = p.closure ∙ q.closure;
}

module _ (x : List ℕ) (bytes : Bytes x) where
  abbrev read : ChangeRead
  read = (read_change x).answer

  -- what a change that is done has made
  record Made (s : Stores) (change : Change) (r : List ℕ) : Type 0 where
    pub reads : Reads x change r
    pub ok : InShape s × (first_asked change r (schema_of s) ≡ 0)
    pub left : (plain_change x s).left ≡ refreshed (rows_made change r s)

  made : (s : Stores) → (plain_change x s).answer.number ≡ 0 → (change : Change) (r : List ℕ) → Reads x change r → Made s change r
  made s z change r reads = record {
    reads = reads;
    ok = (order_shape s (zero_order x s z), asked_zero change r (schema_of s) (sym (number_is x s (zero_order x s z) change r reads) ∙ z));
    left = left_made x s z change r reads;
  }

  pub plain_past : (s : Stores) → SamePast (plain_change x s).left s
  plain_past s = go (ℕ_discrete (plain_change x s).answer.number 0)
    where
      go : Dec ((plain_change x s).answer.number ≡ 0) → SamePast (plain_change x s).left s
      go (no d) = subst (λ (w : Stores). SamePast w s) (sym (plain_kept x s d)) (past_reflexive s)
      go (yes z) =
          let h = ((plain_zero x s).0 z).1 in
          let k = made s z h.change h.carried h.reads in
          subst (λ (w : Stores). SamePast w s) (sym k.left)
          (past_trans (refreshed (rows_made h.change h.carried s)) (rows_made h.change h.carried s) s
          (refreshed_past (rows_made h.change h.carried s) (made_shape h.change x h.carried s bytes h.reads k.ok.0 k.ok.1).long)
          (made_past h.change x h.carried bytes h.reads s k.ok))

  pub plain_bytes : (s : Stores) → OfBytes s → OfBytes (plain_change x s).left
  plain_bytes s b = go (ℕ_discrete (plain_change x s).answer.number 0)
    where
      go : Dec ((plain_change x s).answer.number ≡ 0) → OfBytes (plain_change x s).left
      go (no d) = subst OfBytes (sym (plain_kept x s d)) b
      go (yes z) =
          let h = ((plain_zero x s).0 z).1 in
          let k = made s z h.change h.carried h.reads in
          subst OfBytes (sym k.left)
          (refreshed_bytes (rows_made h.change h.carried s) (made_bytes h.change x h.carried bytes h.reads s k.ok b))

  module _ (s t : Stores) (h : Alike s t) where
    pub plain_answer_alike : (plain_change x s).answer ≡ (plain_change x t).answer
    unfolding plain_change plain_read plain_answer in_order
    plain_answer_alike =
        answers_alike s t h _ _ _ _
        (λ i. ap₂ (λ (b : Bool) (a : Answer). first_answer (refused_if refusal.not_in_order (not b) ∷ []) a)
        (ap₂ (λ (a : Answer) (b : Bool). eqb a.number 0 && b) (judged_same (same_rows s t h i) Nothing) (same_fresh s t h i))
        (answer_same read (read_change x).row (same_rows s t h i)))

    left_alike : Alike (plain_change x s).left (plain_change x t).left
    left_alike = go (ℕ_discrete (plain_change x s).answer.number 0)
      where
        number : (plain_change x s).answer.number ≡ (plain_change x t).answer.number
        number = ap (λ (a : Answer). a.number) plain_answer_alike

        go : Dec ((plain_change x s).answer.number ≡ 0) → Alike (plain_change x s).left (plain_change x t).left
        go (no d) = subst₂ Alike (sym (plain_kept x s d)) (sym (plain_kept x t (λ z. d (number ∙ z)))) h
        go (yes z) =
            let a = ((plain_zero x s).0 z).1 in
            let p = made s z a.change a.carried a.reads in
            let q = made t (sym number ∙ z) a.change a.carried a.reads in
            subst₂ Alike (sym p.left) (sym q.left)
            (refreshed_alike (rows_made a.change a.carried s) (rows_made a.change a.carried t)
            (made_shape a.change x a.carried s bytes a.reads p.ok.0 p.ok.1)
            (made_alike a.change x a.carried bytes a.reads s t h p.ok q.ok))

    pub plain_alike : ((plain_change x s).answer ≡ (plain_change x t).answer) × Alike (plain_change x s).left (plain_change x t).left
    plain_alike = (plain_answer_alike, left_alike)

pub plain_write_load : (x : List ℕ) (s t : Stores) (out : List ℕ) → Bytes x → OfBytes s → (plain_change x s).answer.number ≡ 0 → LongEnough t
    → length (sheet_of (plain_change x s).left) ≤ length out
    → load (part 0 (write (plain_change x s).left out).answer.place (write (plain_change x s).left out).output) t
    ≡ result_of passed (moved (plain_change x s).left t)
plain_write_load x s t out b bytes z room l =
    write_load (plain_change x s).left t out (plain_ordered x s b z) (plain_bytes x b s bytes) room l
