-- The kept sets of a class, member by member: as they stand in its row of the closure store, joined, named by a row, and of an added class.
use Rattle.std.specs.Prelude.{get_or, length, ℕ, ◌%◌, ◌*◌, ◌+◌, ◌/◌, ◌<◌, ◌≤◌, Bool, ◌&&◌, List, [], ◌++◌, ◌⊎◌, ◌↔◌, ◌≡◌, refl}
use Rattle.std.proofs.Common.{length-append, arith, append_assoc, append-nil, ◌∙◌, ap, ap₂, subst, sym}
use Rattle.std.proofs.Math.Logic.{⊎_map}
use Rattle.prelude.specs.Below.{Some, any_below}
use Rattle.prelude.specs.BelowLaws.{says_any}
use Rattle.prelude.specs.Part.{part, zeros}
use Rattle.prelude.specs.PartLaws.{part_at, part_between, part_length, zeros_add, zeros_length}
use Rattle.prelude.specs.Says.{Says}
use Rattle.prelude.specs.SaysLaws.{says_and, says_eq, says_iff, says_never, says_or}
use Rattle.sets.specs.Sets.{bit, digit, member, set_of, union, with_member}
use Rattle.sets.specs.SetsLaws.{member_within, says_member, set_length, union_length, with_length}
use Rattle.sets.specs.SideLaws.{member_alone, member_union, member_zeros}
use Rattle.schema.specs.ClassRow.{fixed_optional_of, mandatory_of, open_optional_of}
use Rattle.schema.specs.Layout.{allowed_at, attribute_set, class_set, class_width, closure_width, demanded_at, fixed_optional_at, mandatory_at, reached_at}
use Rattle.schema.specs.Store.{Table, closure_at}
use Rattle.graph.specs.Graph.{inherits}
use Rattle.closure_change.specs.Kept.{named_sets, new_row, option_row, own_row}
use Rattle.keeper_promises.specs.Uses.{Inherits, KeptAre}
use Rattle.keeper_promises.specs.UsesGraphLaws.{says_inherits}

-- ---- tests and statements

-- equal tests: what they say is the same
both : {a b : Bool} {P Q : Type 0} → a ≡ b → Says a P → Says b Q → P ↔ Q
both e p q = (λ h. q.holds (sym e ∙ p.passes h), λ h. p.holds (e ∙ q.passes h))

bit_part : (at n : ℕ) (v : List ℕ) (k : ℕ) → k < n * 8 → bit (part at n v) k ≡ bit v (at * 8 + k)
unfolding bit
bit_part at n v k l =
    let q : (at * 8 + k) / 8 ≡ at + k / 8 = omega arith in
    let r : (at * 8 + k) % 8 ≡ k % 8 = omega arith in
    ap (λ (x : ℕ). digit x (k % 8)) (part_at at n v (k / 8) (omega arith)) ∙ sym (ap₂ (λ (i j : ℕ). digit (get_or v i 0) j) q r)

-- a member of a part is one of the whole
says_part : (at n : ℕ) (v : List ℕ) (k : ℕ) → k < n * 8 → Says (member v (at * 8 + k)) (bit (part at n v) k ≡ 1)
says_part at n v k l = says_iff (says_member v (at * 8 + k)) (λ e. bit_part at n v k l ∙ e, λ e. sym (bit_part at n v k l) ∙ e)

-- ---- three sets side by side

-- they have exactly these members
pub record Has (row : List ℕ) (Classes Mandatory Optional : ℕ → Type 0) : Type 0 where
  pub reached : (d : ℕ) → d < 128 → (bit (part reached_at class_set row) d ≡ 1) ↔ Classes d
  pub demanded : (b : ℕ) → b < 256 → (bit (part demanded_at attribute_set row) b ≡ 1) ↔ Mandatory b
  pub allowed : (b : ℕ) → b < 256 → (bit (part allowed_at attribute_set row) b ≡ 1) ↔ Optional b

-- those of a class in the closure store
pub kept_has : {R M O : ℕ → Type 0} (closure row : List ℕ) (c : ℕ) → closure_at closure c ≡ row → Has row R M O → KeptAre closure c R M O
kept_has {R} {M} {O} closure row c e h =
    let g : Has (closure_at closure c) R M O = subst (λ (v : List ℕ). Has v R M O) (sym e) h in
    record { reached = g.reached; demanded = g.demanded; allowed = g.allowed }

-- the members that it has
pub has_members : (row : List ℕ) → Has row (λ d. bit (part reached_at class_set row) d ≡ 1) (λ b. bit (part demanded_at attribute_set row) b ≡ 1)
    (λ b. bit (part allowed_at attribute_set row) b ≡ 1)
has_members row = record { reached = λ d l. same; demanded = λ b l. same; allowed = λ b l. same }
  where
    same : {P : Type 0} → P ↔ P
    same = (λ p. p, λ p. p)

-- two of them joined
either : {P Q R S : Type 0} → P ↔ R → Q ↔ S → (P ⊎ Q) ↔ (R ⊎ S)
either f g = (⊎_map f.0 g.0, ⊎_map f.1 g.1)

pub has_union : {R M O R' M' O' : ℕ → Type 0} (row more : List ℕ) → length row ≡ closure_width → Has row R M O → Has more R' M' O'
    → Has (union row more) (λ d. R d ⊎ R' d) (λ b. M b ⊎ M' b) (λ b. O b ⊎ O' b)
has_union row more wide h g = record {
  reached = λ d l. at reached_at class_set d (omega arith) l (h.reached d l) (g.reached d l);
  demanded = λ b l. at demanded_at attribute_set b (omega arith) l (h.demanded b l) (g.demanded b l);
  allowed = λ b l. at allowed_at attribute_set b (omega arith) l (h.allowed b l) (g.allowed b l);
}
  where
    at : {P Q : Type 0} (i n k : ℕ) → i + n ≤ closure_width → k < n * 8 → (bit (part i n row) k ≡ 1) ↔ P → (bit (part i n more) k ≡ 1) ↔ Q
        → (bit (part i n (union row more)) k ≡ 1) ↔ (P ⊎ Q)
    at i n k fits l p q =
        let e = both (member_union row more (i * 8 + k) (omega arith)) (says_part i n (union row more) k l)
        (says_or (says_part i n row k l) (says_part i n more k l)) in
        let f = either p q in (λ o. f.0 (e.0 o), λ o. e.1 (f.1 o))

-- three sets, each by what it has
pub has_three : {R M O : ℕ → Type 0} (a b c : List ℕ) → length a ≡ class_set → length b ≡ attribute_set → length c ≡ attribute_set
    → ((d : ℕ) → d < 128 → (bit a d ≡ 1) ↔ R d) → ((k : ℕ) → k < 256 → (bit b k ≡ 1) ↔ M k) → ((k : ℕ) → k < 256 → (bit c k ≡ 1) ↔ O k)
    → Has (a ++ (b ++ c)) R M O
has_three {R} {M} {O} a b c la lb lc p q r = record {
  reached = λ d l. subst (λ (v : List ℕ). (bit v d ≡ 1) ↔ R d) (sym first) (p d l);
  demanded = λ k l. subst (λ (v : List ℕ). (bit v k ≡ 1) ↔ M k) (sym second) (q k l);
  allowed = λ k l. subst (λ (v : List ℕ). (bit v k ≡ 1) ↔ O k) (sym third) (r k l);
}
  where
    first : part reached_at class_set (a ++ (b ++ c)) ≡ a
    first = part_between [] a (b ++ c) reached_at class_set refl la

    second : part demanded_at attribute_set (a ++ (b ++ c)) ≡ b
    second = part_between a b c demanded_at attribute_set la lb

    third : part allowed_at attribute_set (a ++ (b ++ c)) ≡ c
    third =
        let e : a ++ (b ++ c) ≡ (a ++ b) ++ (c ++ []) = sym (append_assoc a b c) ∙ ap (λ (x : List ℕ). (a ++ b) ++ x) (sym (append-nil c)) in
        ap (part allowed_at attribute_set) e ∙ part_between (a ++ b) c [] allowed_at attribute_set (omega (arith, length-append a b)) lc

-- ---- what is joined in

no_zeros : (n k : ℕ) → (bit (zeros n) k ≡ 1) ↔ ⊥
no_zeros n k = both (member_zeros n k) (says_member (zeros n) k) says_never

one_alone : (n b k : ℕ) → k < n * 8 → (bit (with_member b (zeros n)) k ≡ 1) ↔ (k ≡ b)
one_alone n b k l = both (member_alone n b k l) (says_member (with_member b (zeros n)) k) (says_eq k b)

alone_wide : (n b : ℕ) → length (with_member b (zeros n)) ≡ n
alone_wide n b = with_length b (zeros n) ∙ zeros_length n

-- an attribute that becomes optional
pub has_option : (b : ℕ) → Has (option_row b) (λ d. ⊥) (λ k. ⊥) (λ k. k ≡ b)
unfolding option_row
has_option b =
    let alone = with_member b (zeros attribute_set) in
    let e : zeros allowed_at ++ alone ≡ zeros class_set ++ (zeros attribute_set ++ alone) =
    ap (λ (x : List ℕ). x ++ alone) (zeros_add class_set attribute_set) ∙ append_assoc (zeros class_set) (zeros attribute_set) alone in
    subst (λ (v : List ℕ). Has v (λ d. ⊥) (λ k. ⊥) (λ k. k ≡ b)) (sym e)
    (has_three (zeros class_set) (zeros attribute_set) alone (zeros_length class_set) (zeros_length attribute_set) (alone_wide attribute_set b)
    (λ d l. no_zeros class_set d) (λ k l. no_zeros attribute_set k) (λ k l. one_alone attribute_set b k l))

-- ---- an added class

-- what the classes named have in one of their sets
abbrev NamedHas : Table → ℕ → List ℕ → ℕ → ℕ → ℕ → Type 0
NamedHas t n closure at w k = Some 128 (λ y. Inherits (t.row n) y × (bit (part at w (closure_at closure y)) k ≡ 1))

has_named : (t : Table) (n : ℕ) (closure : List ℕ)
    → Has (named_sets t closure n) (NamedHas t n closure reached_at class_set) (NamedHas t n closure demanded_at attribute_set)
    (NamedHas t n closure allowed_at attribute_set)
unfolding named_sets
has_named t n closure = record {
  reached = λ d l. at reached_at class_set d (omega arith) l;
  demanded = λ b l. at demanded_at attribute_set b (omega arith) l;
  allowed = λ b l. at allowed_at attribute_set b (omega arith) l;
}
  where
    named : ℕ → Bool
    named j = any_below 128 (λ y. inherits t n y && member (closure_at closure y) j)

    at : (i w k : ℕ) → i + w ≤ closure_width → k < w * 8 → (bit (part i w (set_of closure_width named)) k ≡ 1) ↔ NamedHas t n closure i w k
    at i w k fits l = both (member_within closure_width named (i * 8 + k) (omega arith)) (says_part i w (set_of closure_width named) k l)
        (says_any 128 (λ y m. says_and (says_inherits t n y) (says_part i w (closure_at closure y) k l)))

has_own : (n : ℕ) (row : List ℕ) → length row ≡ class_width
    → Has (own_row n row) (λ d. d ≡ n) (λ b. bit (mandatory_of row) b ≡ 1) (λ b. (bit (fixed_optional_of row) b ≡ 1) ⊎ (bit (open_optional_of row) b ≡ 1))
unfolding own_row
has_own n row wide =
    let fixed : length (fixed_optional_of row) ≡ attribute_set = part_length fixed_optional_at attribute_set row (omega arith) in
    has_three (with_member n (zeros class_set)) (mandatory_of row) (union (fixed_optional_of row) (open_optional_of row)) (alone_wide class_set n)
    (part_length mandatory_at attribute_set row (omega arith)) (union_length (fixed_optional_of row) (open_optional_of row) ∙ fixed)
    (λ d l. one_alone class_set n d l) (λ b l. (λ e. e, λ e. e))
    (λ b l. both (member_union (fixed_optional_of row) (open_optional_of row) b (omega arith)) (says_member (union (fixed_optional_of row) (open_optional_of row)) b)
    (says_or (says_member (fixed_optional_of row) b) (says_member (open_optional_of row) b)))

pub has_new : (t : Table) (n : ℕ) (closure : List ℕ) → length (t.row n) ≡ class_width
    → Has (new_row t closure n) (λ d. NamedHas t n closure reached_at class_set d ⊎ (d ≡ n))
    (λ b. NamedHas t n closure demanded_at attribute_set b ⊎ (bit (mandatory_of (t.row n)) b ≡ 1))
    (λ b. NamedHas t n closure allowed_at attribute_set b ⊎ ((bit (fixed_optional_of (t.row n)) b ≡ 1) ⊎ (bit (open_optional_of (t.row n)) b ≡ 1)))
unfolding new_row named_sets
has_new t n closure wide = has_union (named_sets t closure n) (own_row n (t.row n)) (set_length closure_width _) (has_named t n closure)
    (has_own n (t.row n) wide)
