-- What the tests of names and identifiers say.
use Rattle.std.specs.Prelude.{◌≡◌, List, ℕ, ◌+◌, ◌≤◌, ◌<◌, length, get_or}
use Rattle.std.proofs.Common.{sym, ⊎_elim, arith}
use Rattle.std.proofs.Math.Decide.{dec_lt}
use Rattle.std.proofs.Math.ListN.{get_or-eq_default}
use Rattle.prelude.specs.Says.{Says}
use Rattle.prelude.specs.SaysLaws.{says, says_and, says_or, says_not, says_eq, says_iff, says_same, says_split}
use Rattle.prelude.specs.BelowLaws.{says_all}
use Rattle.schema.specs.Row.{name_of}
use Rattle.rules_names.specs.Name.{between, is_letter, is_name_byte, valid_name, folded, same_name, name_invalid, identifier_invalid, Letter, NameByte}
use Rattle.rules_names.specs.Name.{ValidName, SameName, IdentifierInvalid}

pub says_between : (low high b : ℕ) → Says (between low high b) ((low ≤ b) × (b ≤ high))
unfolding between
says_between low high b = search says

pub says_letter : (b : ℕ) → Says (is_letter b) (Letter b)
unfolding is_letter
says_letter b = says_or (says_between 65 90 b) (says_between 97 122 b)

pub says_name_byte : (b : ℕ) → Says (is_name_byte b) (NameByte b)
unfolding is_name_byte
says_name_byte b = says_or (says_letter b) (says_or (says_between 48 57 b) (says_eq b 45))

-- no letter is past the end of a name
begins : (s : List ℕ) → Letter (get_or s 0 0) → 0 < length s
begins s l = go (dec_lt 0 (length s))
  where
    go : Dec (0 < length s) → 0 < length s
    go (yes h) = h
    go (no d) = let e : get_or s 0 0 ≡ 0 = get_or-eq_default s 0 (omega arith) in ⊎_elim (λ q. absurd (omega arith)) (λ q. absurd (omega arith)) l

pub says_valid : (s : List ℕ) → Says (valid_name s) (ValidName s)
unfolding valid_name
says_valid s =
    says_iff (says_and (says_letter (get_or s 0 0)) (says_all (length s) (λ i l. says_name_byte (get_or s i 0))))
    (λ h. record { begun = begins s h.0; letter = h.0; bytes = h.1 }, λ v. (v.letter, v.bytes))

-- rule 12
pub says_name_invalid : (row : List ℕ) → Says (name_invalid row) (¬ (ValidName (name_of row)))
unfolding name_invalid
says_name_invalid row = says_not (says_valid (name_of row))

-- rule 14
pub says_identifier_invalid : (row : List ℕ) → Says (identifier_invalid row) (IdentifierInvalid row)
unfolding identifier_invalid
says_identifier_invalid row = search says

-- ---- the comparison of two names

pub says_same_name : (s t : List ℕ) → Says (same_name s t) (SameName s t)
unfolding same_name
says_same_name s t =
    says_iff (says_and (says_eq (length s) (length t)) (says_all (length s) (λ i l. says_eq (folded (get_or s i 0)) (folded (get_or t i 0)))))
    (λ h. record { lengths = h.0; bytes = h.1 }, λ h. (h.lengths, h.bytes))

turned : {s t : List ℕ} → SameName s t → SameName t s
turned {s} {t} h = record { lengths = sym h.lengths; bytes = λ i l. sym (h.bytes i (omega (arith, h.lengths))) }

pub same_name_symmetric : (s t : List ℕ) → same_name s t ≡ same_name t s
same_name_symmetric s t = says_same (says_iff (says_same_name s t) (turned, turned)) (says_same_name t s)

-- a letter of either case is folded to the same byte, any other byte is left alone
pub folded_upper : (b : ℕ) → 65 ≤ b → b ≤ 90 → folded b ≡ b + 32
unfolding folded
folded_upper b l h = rw ((says_between 65 90 b).passes (l, h))

pub folded_other : (b : ℕ) → ¬ ((65 ≤ b) × (b ≤ 90)) → folded b ≡ b
unfolding folded
folded_other b d = ⊎_elim (λ q. absurd (d q.1)) (λ q. rw q.0) (says_split (says_between 65 90 b))
