-- Laws of stores that hold given rows: what the tables of such a store are, and a row put last.
use mathlib.Core.List.{List, [], ◌∷◌, ◌++◌, append_assoc, append-nil}
use Rattle.std.specs.Prelude.{◌≡◌, get_or, take}
use Rattle.std.proofs.Math.Path.{refl, sym, ap}
use Rattle.std.proofs.Common.{ap₂, ◌∙◌, arith}
use Prim.Native.Nat.{ℕ, zero, suc, ◌+◌, ◌-◌, ◌*◌, ◌≤◌, ◌<◌}
use Rattle.std.proofs.Math.Nat.{mul-le-mul_left}
use Rattle.std.proofs.Math.ListN.{length, drop, length-append}
use Rattle.std.proofs.Math.Seq.{take_at, drop_at, drop-append-add}
use Rattle.prelude.specs.SpliceLaws.{splice_front}
use Rattle.prelude.specs.Part.{part, row_at, splice, zeros, padded}
use Rattle.prelude.specs.PartLaws.{part_between, zeros_length, padded_length, zeros_add}
use Rattle.prelude.specs.BigEndian.{big_endian_bytes}
use Rattle.prelude.specs.BigEndianLaws.{bytes_length, number_of_bytes}
use Rattle.schema.specs.Numbers.{limit}
use Rattle.schema.specs.Layout.{rows_at, row_width, store_length}
use Rattle.schema.specs.Store.{count_in, table_in}
use Rattle.schema.specs.declared.number.TableId.{TableId}
use Rattle.schema.specs.declared.number.TableId.TheVariants.{Attributes, Classes}
use Rattle.tables.specs.Filled.{joined, AllWide, count_bytes, header, filled_store, put_in, plus_in}

-- ---- rows one after the other

pub wide_append : (w : ℕ) (rows : List (List ℕ)) (row : List ℕ) → AllWide w rows → length row ≡ w → AllWide w (rows ++ (row ∷ []))
wide_append w [] row h e = (e, tt)
wide_append w (r ∷ rows) row h e = (h.0, wide_append w rows row h.1 e)

pub joined_length : (w : ℕ) (rows : List (List ℕ)) → AllWide w rows → length (joined rows) ≡ w * length rows
unfolding joined
joined_length w [] h = omega arith
joined_length w (r ∷ rows) h = length-append r (joined rows) ∙ ap₂ (λ (x y : ℕ). x + y) h.0 (joined_length w rows h.1) ∙ omega arith

pub joined_append : (rows : List (List ℕ)) (row : List ℕ) → joined (rows ++ (row ∷ [])) ≡ joined rows ++ row
unfolding joined
joined_append [] row = append-nil row
joined_append (r ∷ rows) row = ap (λ (x : List ℕ). r ++ x) (joined_append rows row) ∙ sym (append_assoc r (joined rows) row)

-- row k of rows side by side
joined_row : (w : ℕ) (rows : List (List ℕ)) (q : List ℕ) (k : ℕ) → AllWide w rows → k < length rows → take w (drop (w * k) (joined rows ++ q))
    ≡ get_or rows k []
unfolding joined
joined_row w [] q k h l = absurd (omega arith)
joined_row w (r ∷ rows) q zero h l =
    let z : w * 0 ≡ 0 = omega arith in
    rw (z, append_assoc r (joined rows) q) (take_at r (joined rows ++ q) w h.0)
joined_row w (r ∷ rows) q (suc k) h l =
    let e : w * suc k ≡ length r + w * k = omega (arith, h.0) in
    rw (e, append_assoc r (joined rows) q, drop-append-add r (joined rows ++ q) (w * k)) (joined_row w rows q k h.1 (omega arith))

-- ---- a store with a header of two bytes

module _ (h : List ℕ) (w n : ℕ) (rows : List (List ℕ)) (two : length h ≡ rows_at) (wide : AllWide w rows) (few : length rows ≤ n) where
  -- rows that are not in use
  abbrev spare : ℕ
  spare = w * n - w * length rows

  fits : w * length rows ≤ w * n
  fits = mul-le-mul_left w few

  filled_length : length (padded (rows_at + w * n) (h ++ joined rows)) ≡ rows_at + w * n
  filled_length = padded_length (rows_at + w * n) (h ++ joined rows) (simp length-append (omega (arith, two, joined_length w rows wide, fits)))

  -- header, rows, zeros, and what stands behind the store
  pub filled_flat : (s : List ℕ) → splice 0 (padded (rows_at + w * n) (h ++ joined rows)) s ≡ h ++ (joined rows ++ (zeros spare ++ drop (rows_at + w * n) s))
  unfolding padded
  filled_flat s =
      let k : rows_at + w * n - length (h ++ joined rows) ≡ spare = simp length-append (omega (arith, two, joined_length w rows wide, fits)) in
      splice_front (padded (rows_at + w * n) (h ++ joined rows)) s ∙ ap (λ (m : ℕ). padded (rows_at + w * n) (h ++ joined rows) ++ drop m s) filled_length
      ∙ ap (λ (m : ℕ). ((h ++ joined rows) ++ zeros m) ++ drop (rows_at + w * n) s) k ∙ simp append_assoc

  -- a row in use
  pub filled_row : (s : List ℕ) (k : ℕ) → k < length rows → row_at rows_at w (splice 0 (padded (rows_at + w * n) (h ++ joined rows)) s) k ≡ get_or rows k []
  unfolding part
  filled_row s k l =
      let q : List ℕ = zeros spare ++ drop (rows_at + w * n) s in
      let e : rows_at + w * k ≡ length h + w * k = omega (arith, two) in
      rw (filled_flat s, e, drop-append-add h (joined rows ++ q) (w * k)) (joined_row w rows q k wide l)

  -- a row that is not in use
  pub filled_spare : (s : List ℕ) (k : ℕ) → length rows ≤ k → k < n → row_at rows_at w (splice 0 (padded (rows_at + w * n) (h ++ joined rows)) s) k ≡ zeros w
  filled_spare s k l m =
      let q : List ℕ = drop (rows_at + w * n) s in
      let a : ℕ = w * k - w * length rows in
      let b : ℕ = spare - (a + w) in
      let below : w * length rows ≤ w * k = mul-le-mul_left w l in
      let room : w * (k + 1) ≤ w * n = mul-le-mul_left w (omega arith) in
      let cut : spare ≡ a + (w + b) = omega (arith, fits) in
      let front : length ((h ++ joined rows) ++ zeros a) ≡ rows_at + w * k = simp (length-append, zeros_length)
      (omega (arith, two, joined_length w rows wide)) in
      let apart : h ++ (joined rows ++ (zeros (a + (w + b)) ++ q)) ≡ ((h ++ joined rows) ++ zeros a) ++ (zeros w ++ (zeros b ++ q)) =
      ap (λ (z : List ℕ). h ++ (joined rows ++ (z ++ q))) (zeros_add a (w + b) ∙ ap (λ (z : List ℕ). zeros a ++ z) (zeros_add w b)) ∙ simp append_assoc in
      rw (filled_flat s, cut, apart) (part_between ((h ++ joined rows) ++ zeros a) (zeros w) (zeros b ++ q) (rows_at + w * k) w front (zeros_length w))

  -- the first of these put in place
  pub filled_put : (s row : List ℕ) → length row ≡ w → length rows < n
      → splice (rows_at + w * length rows) row (splice 0 (padded (rows_at + w * n) (h ++ joined rows)) s)
      ≡ h ++ (joined (rows ++ (row ∷ [])) ++ (zeros (spare - w) ++ drop (rows_at + w * n) s))
  unfolding splice
  filled_put s row e l =
      let q : List ℕ = drop (rows_at + w * n) s in
      let p : List ℕ = h ++ joined rows in
      let room : w * (length rows + 1) ≤ w * n = mul-le-mul_left w (omega arith) in
      let cut : spare ≡ w + (spare - w) = omega (arith, fits) in
      let front : length p ≡ rows_at + w * length rows = simp length-append (omega (arith, two, joined_length w rows wide)) in
      let apart : h ++ (joined rows ++ (zeros (w + (spare - w)) ++ q)) ≡ p ++ (zeros w ++ (zeros (spare - w) ++ q)) =
      ap (λ (z : List ℕ). h ++ (joined rows ++ (z ++ q))) (zeros_add w (spare - w)) ∙ simp append_assoc in
      let flat : splice 0 (padded (rows_at + w * n) (h ++ joined rows)) s ≡ p ++ (zeros w ++ (zeros (spare - w) ++ q)) = filled_flat s
      ∙ ap (λ (z : ℕ). h ++ (joined rows ++ (zeros z ++ q))) cut ∙ apart in
      let behind : drop (rows_at + w * length rows + length row) (p ++ (zeros w ++ (zeros (spare - w) ++ q))) ≡ zeros (spare - w) ++ q =
      ap (λ (m : ℕ). drop (m + length row) (p ++ (zeros w ++ (zeros (spare - w) ++ q)))) (sym front)
      ∙ drop-append-add p (zeros w ++ (zeros (spare - w) ++ q)) (length row)
      ∙ drop_at (zeros w) (zeros (spare - w) ++ q) (length row) (zeros_length w ∙ sym e) in
      rw (flat, take_at p (zeros w ++ (zeros (spare - w) ++ q)) (rows_at + w * length rows) front, behind, joined_append rows row) (simp append_assoc)

-- ---- the store of a table

two_bytes : (t : TableId) (n : ℕ) → length (header t n) ≡ rows_at
two_bytes Attributes n = bytes_length 2 n
two_bytes Classes n = refl

-- the count is written over, and nothing else of the header
header_over : (t : TableId) (m n : ℕ) (x : List ℕ) → splice 0 (count_bytes t m) (header t n ++ x) ≡ header t m ++ x
header_over Attributes m n x =
    splice_front (big_endian_bytes 2 m) (big_endian_bytes 2 n ++ x)
    ∙ ap (λ (y : List ℕ). big_endian_bytes 2 m ++ y) (drop_at (big_endian_bytes 2 n) x (length (big_endian_bytes 2 m)) (bytes_length 2 n ∙ sym (bytes_length 2 m)))
header_over Classes m n x = unfold splice in refl

-- and is read back
header_count : (t : TableId) (n : ℕ) (x : List ℕ) → n ≤ limit t → count_in t (header t n ++ x) ≡ n
header_count Attributes n x l = number_of_bytes 2 n [] x (omega arith)
header_count Classes n x l = refl

module _ (t : TableId) (rows : List (List ℕ)) (s : List ℕ) (wide : AllWide (row_width t) rows) (few : length rows ≤ limit t) where
  pub store_flat : splice 0 (filled_store t rows) s ≡ header t (length rows) ++
      (joined rows ++ (zeros (row_width t * limit t - row_width t * length rows) ++ drop (store_length t) s))
  unfolding filled_store
  store_flat = filled_flat (header t (length rows)) (row_width t) (limit t) rows (two_bytes t (length rows)) wide few s

  pub store_length_lem : length (filled_store t rows) ≡ store_length t
  unfolding filled_store
  store_length_lem = filled_length (header t (length rows)) (row_width t) (limit t) rows (two_bytes t (length rows)) wide few

  pub store_count : (table_in t (splice 0 (filled_store t rows) s)).count ≡ length rows
  store_count = ap (count_in t) store_flat ∙ header_count t (length rows) _ few

  pub store_row : (k : ℕ) → k < length rows → (table_in t (splice 0 (filled_store t rows) s)).row k ≡ get_or rows k []
  unfolding filled_store
  store_row k l = filled_row (header t (length rows)) (row_width t) (limit t) rows (two_bytes t (length rows)) wide few s k l

  pub store_spare : (k : ℕ) → length rows ≤ k → k < limit t → (table_in t (splice 0 (filled_store t rows) s)).row k ≡ zeros (row_width t)
  unfolding filled_store
  store_spare k l m = filled_spare (header t (length rows)) (row_width t) (limit t) rows (two_bytes t (length rows)) wide few s k l m

-- a row put last
pub store_plus : (t : TableId) (rows : List (List ℕ)) (row s : List ℕ) → AllWide (row_width t) rows → length row ≡ row_width t → length rows < limit t
    → plus_in t row (splice 0 (filled_store t rows) s) ≡ splice 0 (filled_store t (rows ++ (row ∷ []))) s
unfolding plus_in put_in
store_plus t rows row s wide e l =
    let w = row_width t in
    let n = limit t in
    let n₀ = length rows in
    let count : count_in t (splice 0 (filled_store t rows) s) ≡ n₀ = store_count t rows s wide (omega arith) in
    let more : length (rows ++ (row ∷ [])) ≡ n₀ + 1 = length-append rows (row ∷ []) in
    let rest : w * n - w * n₀ - w ≡ w * n - w * length (rows ++ (row ∷ [])) = rw more (omega arith) in
    ap (λ (k : ℕ). splice 0 (count_bytes t (k + 1)) (splice (rows_at + w * k) row (splice 0 (filled_store t rows) s))) count
    ∙ ap (splice 0 (count_bytes t (n₀ + 1))) put
    ∙ header_over t (n₀ + 1) n₀ _
    ∙ ap₂ (λ (m z : ℕ). header t m ++ (joined (rows ++ (row ∷ [])) ++ (zeros z ++ drop (store_length t) s))) (sym more) rest
    ∙ sym (store_flat t (rows ++ (row ∷ [])) s (wide_append w rows row wide e) (omega arith))
  where
    put : splice (rows_at + row_width t * length rows) row (splice 0 (filled_store t rows) s)
        ≡ header t (length rows) ++
        (joined (rows ++ (row ∷ [])) ++ (zeros (row_width t * limit t - row_width t * length rows - row_width t) ++ drop (store_length t) s))
    put = unfold filled_store in (filled_put (header t (length rows)) (row_width t) (limit t) rows (two_bytes t (length rows)) wide (omega arith) s row e l)

-- an empty store is zero
two_zeros : zeros 2 ≡ 0 ∷ 0 ∷ []
unfolding zeros
two_zeros = refl

no_header : (t : TableId) → header t 0 ≡ 0 ∷ 0 ∷ []
no_header Attributes = unfold big_endian_bytes in refl
no_header Classes = refl

zeros_from : (n : ℕ) → 0 ∷ 0 ∷ zeros n ≡ zeros (2 + n)
zeros_from n = sym (zeros_add 2 n ∙ ap (λ (x : List ℕ). x ++ zeros n) two_zeros)

pub store_empty : (t : TableId) → filled_store t [] ≡ zeros (store_length t)
unfolding filled_store joined padded
store_empty t =
    let two : 2 + (store_length t - 2) ≡ store_length t = omega arith in
    rw (no_header t) (zeros_from (store_length t - 2) ∙ ap zeros two)
