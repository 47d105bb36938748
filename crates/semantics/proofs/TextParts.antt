-- Lines and fields: what is joined is parted again, and what is parted is joined again. Assumes nothing.
use mathlib.Core.Path.{◌≡◌, refl, sym, ◌∙◌, ap}
use mathlib.Core.Bool.{Bool, true, false, not, ◌&&◌}
use mathlib.Core.List.{List, [], ◌∷◌, ◌++◌, append-nil}
use Prim.Native.Nat.{ℕ, suc, ◌-◌, ◌<◌}
use native.Mathlib.Omega.{arith}
use lib.Dec.{eqb}
use lib.ListN.{length, get_or, drop, length-append}
use borrow.Author.Tests.{ne_eqb, eqb-true, not-true}
use Rattle.semantics.specs.Text.{parted, text_lines, fields_of}
use Rattle.semantics.specs.Fields.{after_commas, joined, ended_lines}
use Rattle.semantics.proofs.Soundness.{both_true}

-- a list without the byte m
abbrev pub without : ℕ → List ℕ → Bool
without m [] = true
without m (b ∷ s) = not (eqb b m) && without m s

pub without_append : (m : ℕ) (s t : List ℕ) → without m s ≡ true → without m t ≡ true → without m (s ++ t) ≡ true
without_append m [] t p q = q
without_append m (b ∷ s) t p q = let h = both_true (not (eqb b m)) (without m s) p in rw h.0 (without_append m s t h.1 q)

-- A text that is made of ended lines has those lines.
first_line_lem : (l s : List ℕ) → without 10 l ≡ true → text_lines (l ++ (10 ∷ s)) ≡ l ∷ text_lines s
unfolding text_lines
first_line_lem [] s w = refl
first_line_lem (b ∷ l) s w =
    let h = both_true (not (eqb b 10)) (without 10 l) w in
    rw (not-true (eqb b 10) h.0, first_line_lem l s h.1)

abbrev pub AllWithout : ℕ → List (List ℕ) → Type 0
AllWithout m [] = Unit {0}
AllWithout m (l ∷ ls) = (without m l ≡ true) × AllWithout m ls

pub lines_of_ended : (ls : List (List ℕ)) → AllWithout 10 ls → text_lines (ended_lines ls) ≡ ls
unfolding text_lines
lines_of_ended [] w = refl
lines_of_ended (l ∷ ls) w = first_line_lem l (ended_lines ls) w.0 ∙ ap (λ (ms : List (List ℕ)). l ∷ ms) (lines_of_ended ls w.1)

-- A line that is made of joined fields has those fields.
last_field : (f : List ℕ) → without 44 f ≡ true → fields_of f ≡ f ∷ []
unfolding fields_of
last_field [] w = refl
last_field (b ∷ f) w =
    let h = both_true (not (eqb b 44)) (without 44 f) w in
    rw (not-true (eqb b 44) h.0, last_field f h.1)

first_field : (f s : List ℕ) → without 44 f ≡ true → fields_of (f ++ (44 ∷ s)) ≡ f ∷ fields_of s
unfolding fields_of
first_field [] s w = refl
first_field (b ∷ f) s w =
    let h = both_true (not (eqb b 44)) (without 44 f) w in
    rw (not-true (eqb b 44) h.0, first_field f s h.1)

pub fields_of_joined : (f : List ℕ) (fs : List (List ℕ)) → AllWithout 44 (f ∷ fs) → fields_of (joined (f ∷ fs)) ≡ f ∷ fs
fields_of_joined f [] w = ap fields_of (append-nil f) ∙ last_field f w.0
fields_of_joined f (g ∷ fs) w =
    first_field f (g ++ after_commas fs) w.0 ∙ ap (λ (gs : List (List ℕ)). f ∷ gs) (fields_of_joined g fs w.1)

-- And back: the lines of a text that ends with byte 10 make it, and the fields of a line make it.
parted_line : (b : ℕ) (parts : List (List ℕ)) (t : Bool) → eqb b 10 ≡ t → ended_lines (parted t b (get_or parts 0 [] ∷ drop 1 parts)) ≡ b ∷ ended_lines (get_or parts 0 [] ∷ drop 1 parts)
parted_line b parts true e = ap (λ (x : ℕ). x ∷ ended_lines (get_or parts 0 [] ∷ drop 1 parts)) (sym (eqb-true b 10 e))
parted_line b parts false e = refl

parted_first : (t : Bool) (b : ℕ) (parts : List (List ℕ)) → parted t b parts ≡ get_or (parted t b parts) 0 [] ∷ drop 1 (parted t b parts)
parted_first true b parts = refl
parted_first false b parts = refl

-- there is a line in a text that is not empty, and a field in every line
pub some_line : (b : ℕ) (s : List ℕ) → text_lines (b ∷ s) ≡ get_or (text_lines (b ∷ s)) 0 [] ∷ drop 1 (text_lines (b ∷ s))
unfolding text_lines
some_line b s = parted_first (eqb b 10) b (text_lines s)

pub some_field : (l : List ℕ) → fields_of l ≡ get_or (fields_of l) 0 [] ∷ drop 1 (fields_of l)
unfolding fields_of
some_field [] = refl
some_field (b ∷ l) = parted_first (eqb b 44) b (fields_of l)

pub ended_lines_of : (s : List ℕ) → (length s ≡ 0 → ⊥) → get_or s (length s - 1) 0 ≡ 10 → ended_lines (text_lines s) ≡ s
unfolding text_lines
ended_lines_of [] n e = absurd (n refl)
ended_lines_of (b ∷ []) n e = let z : b ≡ 10 = e in rw z
ended_lines_of (b ∷ c ∷ s) n e =
    let l : suc (suc (length s)) - 1 ≡ suc (suc (length s) - 1) = omega arith in
    let e' : get_or (c ∷ s) (suc (length s) - 1) 0 ≡ 10 = sym (ap (λ (k : ℕ). get_or (b ∷ c ∷ s) k 0) l) ∙ e in
    let ih = ended_lines_of (c ∷ s) (λ z. omega arith) e' in
    ap (λ (ls : List (List ℕ)). ended_lines (parted (eqb b 10) b ls)) (some_line c s)
    ∙ parted_line b (text_lines (c ∷ s)) (eqb b 10) refl
    ∙ ap (λ (ls : List (List ℕ)). b ∷ ended_lines ls) (sym (some_line c s))
    ∙ ap (λ (t : List ℕ). b ∷ t) ih

parted_field : (b : ℕ) (f : List ℕ) (fs : List (List ℕ)) (t : Bool) → eqb b 44 ≡ t → joined (parted t b (f ∷ fs)) ≡ b ∷ joined (f ∷ fs)
parted_field b f fs true e = ap (λ (x : ℕ). x ∷ joined (f ∷ fs)) (sym (eqb-true b 44 e))
parted_field b f fs false e = refl

pub joined_fields_of : (l : List ℕ) → joined (fields_of l) ≡ l
unfolding fields_of
joined_fields_of [] = refl
joined_fields_of (b ∷ l) =
    ap (λ (fs : List (List ℕ)). joined (parted (eqb b 44) b fs)) (some_field l)
    ∙ parted_field b (get_or (fields_of l) 0 []) (drop 1 (fields_of l)) (eqb b 44) refl
    ∙ ap (λ (fs : List (List ℕ)). b ∷ joined fs) (sym (some_field l))
    ∙ ap (λ (t : List ℕ). b ∷ t) (joined_fields_of l)

-- lines that are ended make a text that ends with byte 10
last_of : (s t : List ℕ) → 0 < length t → get_or (s ++ t) (length (s ++ t) - 1) 0 ≡ get_or t (length t - 1) 0
last_of [] t h = refl
last_of (b ∷ s) t h =
    let k : 0 < length (s ++ t) = omega (arith, length-append s t) in
    let e : suc (length (s ++ t)) - 1 ≡ suc (length (s ++ t) - 1) = omega arith in
    ap (λ (j : ℕ). get_or (b ∷ (s ++ t)) j 0) e ∙ last_of s t h

pub ended_last : (l : List ℕ) (ls : List (List ℕ)) → get_or (ended_lines (l ∷ ls)) (length (ended_lines (l ∷ ls)) - 1) 0 ≡ 10
ended_last l [] = last_of l (10 ∷ []) (omega arith)
ended_last l (m ∷ ls) =
    let t = ended_lines (m ∷ ls) in
    let k : 0 < length t = omega (arith, length-append m (10 ∷ ended_lines ls)) in
    let e : suc (length t) - 1 ≡ suc (length t - 1) = omega arith in
    last_of l (10 ∷ t) (omega arith) ∙ ap (λ (j : ℕ). get_or (10 ∷ t) j 0) e ∙ ended_last m ls

-- a joined line holds no byte that neither its fields nor the comma are
pub joined_without : (m : ℕ) → (44 ≡ m → ⊥) → (fs : List (List ℕ)) → AllWithout m fs → without m (joined fs) ≡ true
joined_without m n [] w = refl
joined_without m n (f ∷ fs) w = without_append m f (after_commas fs) w.0 (commas fs w.1)
  where
    commas : (fs : List (List ℕ)) → AllWithout m fs → without m (after_commas fs) ≡ true
    commas [] w = refl
    commas (f ∷ fs) w = rw (ne_eqb 44 m n) (without_append m f (after_commas fs) w.0 (commas fs w.1))
