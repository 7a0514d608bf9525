-- Unions of kept sets: one class more, all classes; and the rows that are joined in.
use mathlib.Core.Bool.{Bool, true, false, ◌&&◌, ◌||◌}
use mathlib.Core.List.{List, ◌++◌, append_assoc, append-nil}
use mathlib.Core.Path.{◌≡◌, sym, ap, ap₂, ◌∙◌}
use Prim.Native.Nat.{ℕ, ◌+◌, ◌*◌, ◌≤◌, ◌<◌}
use native.Mathlib.Numerals.{add-one}
use native.Mathlib.Omega.{arith}
use lib.ListN.{length, get_or, take, drop, length-append}
use Rattle.prelude.specs.Below.{any_below}
use Rattle.prelude.specs.Part.{splice, zeros}
use Rattle.prelude.specs.PartLaws.{part_length, zeros_length}
use Rattle.prelude.specs.SpliceLaws.{splice_all}
use Rattle.prelude.specs.Written.{WrittenAt}
use Rattle.prelude.specs.WrittenLaws.{written_length, written_then}
use Rattle.sets.specs.Sets.{flag, member, set_of, union, with_member}
use Rattle.sets.specs.SetsLaws.{bit_flag, is_set, set_cong, member_within, or-false, with_length, union_length}
use Rattle.sets.specs.SideLaws.{zeros_set}
use Rattle.schema.specs.Layout.{allowed_at, attribute_set, class_set, closure_width, class_width}
use Rattle.schema.specs.Numbers.{class_limit}
use Rattle.schema.specs.ClassRow.{mandatory_of, fixed_optional_of, open_optional_of}
use Rattle.schema.specs.Store.{Table, closure_at}
use Rattle.graph.specs.Graph.{inherits}
use Rattle.closure_change.specs.Kept.{named_sets, option_row, own_row}

-- ---- the kept sets of the classes that class n names

module _ (t : Table) (closure : List ℕ) (n : ℕ) where
  -- class y is named, and its kept sets have b
  abbrev has : ℕ → ℕ → Bool
  has y b = inherits t n y && member (closure_at closure y) b

  module _ (y : ℕ) (out : List ℕ) (long : length out ≡ closure_width) where
    pub one_named : (row r : List ℕ) → inherits t n y ≡ true → row ≡ closure_at closure y → r ≡ union out row
        → r ≡ set_of closure_width (λ b. member out b || has y b)
    unfolding union
    one_named row r e q u = rw (u, long, e, q)

    pub not_named : ((i : ℕ) → get_or out i 0 < 256) → inherits t n y ≡ false → out ≡ set_of closure_width (λ b. member out b || has y b)
    not_named s e =
        is_set out closure_width (λ b. member out b || has y b) long s
        (λ b l. bit_flag out b
        ∙ ap flag (sym (or-false (member out b) (has y b) (ap (λ (x : Bool). x && member (closure_at closure y) b) e))))

  -- those of the first y
  abbrev pub Named : ℕ → List ℕ → Type 0
  Named y out = out ≡ set_of closure_width (λ b. any_below y (λ j. has j b))

  pub named_none : (out : List ℕ) → out ≡ zeros closure_width → Named 0 out
  unfolding any_below
  named_none out e = e ∙ zeros_set closure_width

  pub named_more : (y : ℕ) (out r : List ℕ) → Named y out → r ≡ set_of closure_width (λ b. member out b || has y b) → Named (y + 1) r
  unfolding any_below
  named_more y out r p q = q ∙ set_cong closure_width (λ b. member out b || has y b) (λ b. any_below (y + 1) (λ j. has j b)) each
    where
      each : (b : ℕ) → b < closure_width * 8 → member out b || has y b ≡ any_below (y + 1) (λ j. has j b)
      each b l =
          ap (λ (x : Bool). x || has y b) (ap (λ (s : List ℕ). member s b) p ∙ member_within closure_width (λ b. any_below y (λ j. has j b)) b l)
          ∙ ap (λ (i : ℕ). any_below i (λ j. has j b)) (sym (add-one y))

  pub named_end : (y : ℕ) (out : List ℕ) → y ≤ class_limit → class_limit ≤ y → Named y out → out ≡ named_sets t closure n
  unfolding named_sets
  named_end y out h g p = let e : y ≡ class_limit = omega arith in p ∙ ap (λ (i : ℕ). set_of closure_width (λ b. any_below i (λ j. has j b))) e

-- ---- class n itself, and its own lists, written one after the other

module _ (n : ℕ) (row out₀ : List ℕ) {empty reached mandatory fixed other optional : List ℕ} (long : length out₀ ≡ closure_width)
    (wide : length row ≡ class_width) (none : empty ≡ zeros class_set) (r : reached ≡ with_member n empty) (m : mandatory ≡ mandatory_of row)
    (f : fixed ≡ fixed_optional_of row) (o : other ≡ open_optional_of row) (j : optional ≡ union fixed other) where
  is_reached : reached ≡ with_member n (zeros class_set)
  is_reached = r ∙ ap (with_member n) none

  is_optional : optional ≡ union (fixed_optional_of row) (open_optional_of row)
  is_optional = j ∙ ap₂ union f o

  reached_long : length reached ≡ class_set
  reached_long = ap length is_reached ∙ with_length n (zeros class_set) ∙ zeros_length class_set

  mandatory_long : length mandatory ≡ attribute_set
  mandatory_long = ap length m ∙ part_length _ attribute_set row (omega arith)

  optional_long : length optional ≡ attribute_set
  optional_long = ap length is_optional ∙ union_length (fixed_optional_of row) (open_optional_of row) ∙ part_length _ attribute_set row (omega arith)

  module _ {u : ℕ} {out₁ : List ℕ} (p : WrittenAt reached 0 u out₀ out₁) where
    first_fits : 0 + length reached ≤ length out₀
    first_fits = omega (arith, reached_long)

    pub second_fits : u + length mandatory ≤ length out₁
    second_fits = omega (arith, reached_long, mandatory_long, written_length first_fits p, p.place)

    module _ {v : ℕ} {out₂ : List ℕ} (q : WrittenAt mandatory u v out₁ out₂) where
      pub third_fits : v + length optional ≤ length out₂
      third_fits =
          omega (arith, reached_long, mandatory_long, optional_long, written_length first_fits p, p.place, written_length second_fits q, q.place)

      pub own_written : {w : ℕ} {out : List ℕ} → WrittenAt optional v w out₂ out → out ≡ own_row n row
      unfolding own_row
      own_written s =
          let both : length (reached ++ mandatory) ≡ length reached + length mandatory = length-append reached mandatory in
          let all = written_then (omega (arith, reached_long, mandatory_long, both)) (written_then first_fits p q) s in
          let e : length ((reached ++ mandatory) ++ optional) ≡ length (reached ++ mandatory) + length optional =
          length-append (reached ++ mandatory) optional in
          let l : length out₀ ≡ length ((reached ++ mandatory) ++ optional) = omega (arith, reached_long, mandatory_long, optional_long, both, e) in
          all.bytes ∙ splice_all ((reached ++ mandatory) ++ optional) out₀ l ∙ append_assoc reached mandatory optional
          ∙ ap₂ ◌++◌ is_reached (ap₂ ◌++◌ m is_optional)

-- ---- an attribute that becomes optional

pub option_written : (b : ℕ) {next : ℕ} {empty allowed out₀ out : List ℕ} → empty ≡ zeros attribute_set → allowed ≡ with_member b empty
    → out₀ ≡ zeros closure_width → WrittenAt allowed allowed_at next out₀ out → out ≡ option_row b
unfolding option_row splice zeros
option_written b {next} {empty} {allowed} {out₀} {out} z a o w =
    let e : allowed ≡ with_member b (zeros attribute_set) = a ∙ ap (with_member b) z in
    let l : length allowed ≡ attribute_set = ap length e ∙ with_length b (zeros attribute_set) ∙ zeros_length attribute_set in
    w.bytes ∙ ap (splice allowed_at allowed) o ∙ ap (λ (i : ℕ). take allowed_at (zeros closure_width) ++ (allowed ++ drop (allowed_at + i) (zeros closure_width))) l
    ∙ ap (λ (x : List ℕ). zeros allowed_at ++ x) (append-nil allowed ∙ e)
