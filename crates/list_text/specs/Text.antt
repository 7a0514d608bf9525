-- Text, as bytes (ASCII): numbers in decimal, words and lines.
use Rattle.std.specs.Prelude.{Bool, true, false, List, [], ◌∷◌, ◌++◌, ℕ, zero, suc, ◌+◌, ◌-◌, ◌*◌, ◌/◌, ◌%◌, ltb}
use Prim.Native.Char.{code}
use Prim.Native.String.{String}
use Prim.Native.String as string

-- the codes of a text's characters
unfoldable pub ascii : String → List ℕ
ascii string.[] = []
ascii (string.◌∷◌ c s) = code c ∷ ascii s

-- ---- numbers

-- the digits of n, at most k of them, the most significant first; single says that n has one digit. 48 is the character 0
unfoldable pub digits_within : ℕ → ℕ → Bool → List ℕ
digits_within zero n single = []
digits_within (suc k) n true = (48 + n) ∷ []
digits_within (suc k) n false = digits_within k (n / 10) (ltb (n / 10) 10) ++ ((48 + n % 10) ∷ [])

-- n in decimal: n + 1 digits are enough
unfoldable pub decimal : ℕ → List ℕ
decimal n = digits_within (suc n) n (ltb n 10)

-- the number that digits stand for, behind those of n
unfoldable pub value : ℕ → List ℕ → ℕ
value n [] = n
value n (d ∷ ds) = value (n * 10 + (d - 48)) ds

-- ---- lines

-- bytes, and the byte behind them
unfoldable pub word : List ℕ → ℕ → List ℕ
word v behind = v ++ (behind ∷ [])

-- words with "single spaces" (32) between them and a line feed (10) behind the last
unfoldable pub text_line : List (List ℕ) → List ℕ
text_line [] = 10 ∷ []
text_line (v ∷ []) = word v 10
text_line (v ∷ w ∷ ws) = word v 32 ++ text_line (w ∷ ws)
