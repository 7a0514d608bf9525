-- The fields of some rows, one after the other.
use Rattle.std.specs.Prelude.{List, [], ◌∷◌, ◌++◌, ◌≡◌, refl, ℕ, zero, suc, length, get_or}
use Rattle.std.proofs.Common.{append_assoc, append-nil, sym, ap, ap₂, ◌∙◌}
use Rattle.prelude.specs.Concat.{concat_below}
use Rattle.schema.specs.declared.number.TableId.{TableId}
use Rattle.schema.specs.declared.number.TableId.TheVariants.{Attributes, Classes}
use Rattle.tables.specs.Filled.{table_from}
use Rattle.sheet_read.specs.Reading.{Rows, rows, no_rows, plus, schema_from}
use Rattle.sheet_write.specs.Writing.{heading, row_field, row_fields, sheet_bytes}

unfoldable pub written : TableId → List (List ℕ) → List ℕ
written t [] = []
written t (r ∷ list) = row_field t r ++ written t list

-- the first of them, and the others
concat_first : (n : ℕ) (f : ℕ → List ℕ) → concat_below (suc n) f ≡ f 0 ++ concat_below n (λ k. f (suc k))
unfolding concat_below
concat_first zero f = sym (append-nil (f 0))
concat_first (suc n) f = ap (λ (x : List ℕ). x ++ f (suc n)) (concat_first n f) ∙ append_assoc (f 0) (concat_below n (λ k. f (suc k))) (f (suc n))

pub written_fields : (t : TableId) (list : List (List ℕ)) → row_fields t (table_from list) ≡ written t list
unfolding row_fields written concat_below
written_fields t [] = refl
written_fields t (r ∷ list) = concat_first (length list) (λ k. row_field t (get_or (r ∷ list) k []))
    ∙ ap (λ (x : List ℕ). row_field t r ++ x) (written_fields t list)

-- one row more
pub written_more : (t : TableId) (list : List (List ℕ)) (row : List ℕ) → written t (list ++ (row ∷ [])) ≡ written t list ++ row_field t row
unfolding written
written_more t [] row = append-nil (row_field t row)
written_more t (r ∷ list) row = ap (λ (x : List ℕ). row_field t r ++ x) (written_more t list row)
    ∙ sym (append_assoc (row_field t r) (written t list) (row_field t row))

-- the sheet of some rows
pub sheet_of_lem : (x : Rows) → sheet_bytes (schema_from x) ≡ heading ++ (written Attributes x.attributes ++ written Classes x.classes)
unfolding sheet_bytes
sheet_of_lem x = ap₂ (λ (a c : List ℕ). heading ++ (a ++ c)) (written_fields Attributes x.attributes) (written_fields Classes x.classes)

-- and of one row more, an attribute's only where there is no class yet
pub sheet_more : (t : TableId) (row : List ℕ) (x : Rows) → (t ≡ Attributes → x.classes ≡ []) → sheet_bytes (schema_from x) ++ row_field t row
    ≡ sheet_bytes (schema_from (plus t row x))
unfolding written
sheet_more Attributes row x bare =
    let none = bare refl in
    let u : List ℕ = written Attributes x.attributes in
    let v : List ℕ = row_field Attributes row in
    let bared : written Classes x.classes ≡ [] = ap (written Classes) none in
    let apart : (heading ++ (u ++ [])) ++ v ≡ heading ++ ((u ++ v) ++ []) = simp (append_assoc, append-nil) in
    ap (λ (s : List ℕ). s ++ v) (sheet_of_lem x ∙ ap (λ (s : List ℕ). heading ++ (u ++ s)) bared) ∙ apart
    ∙ ap₂ (λ (p q : List ℕ). heading ++ (p ++ q)) (sym (written_more Attributes x.attributes row)) (sym bared) ∙ sym (sheet_of_lem (plus Attributes row x))
sheet_more Classes row x bare =
    let u : List ℕ = written Attributes x.attributes in
    let v : List ℕ = written Classes x.classes in
    let apart : (heading ++ (u ++ v)) ++ row_field Classes row ≡ heading ++ (u ++ (v ++ row_field Classes row)) = simp append_assoc in
    ap (λ (s : List ℕ). s ++ row_field Classes row) (sheet_of_lem x) ∙ apart
    ∙ ap (λ (s : List ℕ). heading ++ (written Attributes x.attributes ++ s)) (sym (written_more Classes x.classes row))
    ∙ sym (sheet_of_lem (plus Classes row x))

pub bare_sheet : sheet_bytes (schema_from no_rows) ≡ heading
unfolding written
bare_sheet = sheet_of_lem no_rows ∙ append-nil heading

-- ---- some rows more, one after the other

abbrev pub plus_all : TableId → List (List ℕ) → Rows → Rows
plus_all t [] x = x
plus_all t (r ∷ list) x = plus_all t list (plus t r x)

pub all_attributes : (list a c : List (List ℕ)) → plus_all Attributes list (rows a c) ≡ rows (a ++ list) c
all_attributes [] a c = ap (λ (z : List (List ℕ)). rows z c) (sym (append-nil a))
all_attributes (r ∷ list) a c = all_attributes list (a ++ (r ∷ [])) c ∙ ap (λ (z : List (List ℕ)). rows z c) (append_assoc a (r ∷ []) list)

pub all_classes : (list a c : List (List ℕ)) → plus_all Classes list (rows a c) ≡ rows a (c ++ list)
all_classes [] a c = ap (rows a) (sym (append-nil c))
all_classes (r ∷ list) a c = all_classes list a (c ++ (r ∷ [])) ∙ ap (rows a) (append_assoc c (r ∷ []) list)
