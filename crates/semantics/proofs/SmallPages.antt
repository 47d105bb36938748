-- The list of all small pages: it holds each of them once, in their order, and there is one such list; the reader accepts each page. Assumes
-- nothing.
use mathlib.Core.Path.{◌≡◌, refl, sym, ◌∙◌, ap, ap₂, subst}
use mathlib.Core.Bool.{Bool, true, false, ◌&&◌, ◌||◌, false≢true, or-true}
use mathlib.Core.Logic.{◌⊎◌, inl, inr}
use mathlib.Core.List.{List, [], ◌∷◌, ◌++◌, map, flat_map}
use Prim.Native.Nat.{ℕ, zero, suc, ◌≤◌, ◌<◌}
use native.Mathlib.Omega.{arith}
use lib.Dec.{eqb, ltb, leb}
use lib.ListN.{length, get_or, drop}
use borrow.Author.Tests.{eqb-true, eq-eqb, ltb-true, lt-ltb, leb-true}
use Rattle.semantics.specs.Page.{Literal, positive, negative, condition_of, Line, fact, Page, defaults}
use Rattle.semantics.specs.Area.{used_of, area_of}
use Rattle.semantics.specs.ReadPage.{read_page, read_of}
use Rattle.semantics.specs.Fields.{number_within, number_text}
use Rattle.semantics.specs.Written.{text_of}
use Rattle.semantics.specs.SmallPages.{SmallLine, small_fact, small_rule, SmallLines, SmallPage, less_or, bytes_before, earlier, StandsIn, InOrder, AllSmallPages, numbers_below, facts_on, rule_with, rules_on, small_lines, one_of, two_of, page_with, small_pages_of, small_pages, small_page, small_text}
use Rattle.semantics.proofs.Proper.{InRange, AllInRange, Proper}
use Rattle.semantics.proofs.WrittenPages.{written_read}
use Rattle.semantics.proofs.Listing.{stands_left, stands_right, stands_either, stands_map, stands_image, stands_flat, stands_part, stands_below, below_stands, stands_at, place_of}

-- The order: no page comes before itself, and it is transitive.
less_cases : (x y : ℕ) (r : Bool) → less_or x y r ≡ true → (x < y) ⊎ ((x ≡ y) × (r ≡ true))
less_cases x y r e = go (ltb x y) refl (eqb x y) refl e
  where
    go : (t : Bool) → ltb x y ≡ t → (u : Bool) → eqb x y ≡ u → (t || (u && r)) ≡ true → (x < y) ⊎ ((x ≡ y) × (r ≡ true))
    go true q u f e = inl (ltb-true x y q)
    go false q true f e = inr (eqb-true x y f, e)
    go false q false f e = absurd (false≢true e)

less_first : (x y : ℕ) (r : Bool) → x < y → less_or x y r ≡ true
less_first x y r h = rw (lt-ltb x y h)

less_same : (x y : ℕ) (r : Bool) → x ≡ y → r ≡ true → less_or x y r ≡ true
less_same x y r h e = rw (eq-eqb x y h, e, or-true)

less_trans : (x y z : ℕ) (r s t : Bool) → (r ≡ true → s ≡ true → t ≡ true) → less_or x y r ≡ true → less_or y z s ≡ true → less_or x z t ≡ true
less_trans x y z r s t f p q =
    elim (less_cases x y r p) [
      | inl a ↦ elim (less_cases y z s q) [ inl b ↦ less_first x z t (omega arith) | inr b ↦ less_first x z t (omega (arith, b.0)) ]
      | inr a ↦
          elim (less_cases y z s q) [
            | inl b ↦ less_first x z t (omega (arith, a.0))
            | inr b ↦ less_same x z t (omega (arith, a.0, b.0)) (f a.1 b.1)
          ]
    ]

less_not : (x : ℕ) (r : Bool) → (r ≡ true → ⊥) → less_or x x r ≡ true → ⊥
less_not x r f p = elim (less_cases x x r p) [ inl a ↦ absurd (omega arith) | inr a ↦ f a.1 ]

bytes_trans : (s t u : List ℕ) → bytes_before s t ≡ true → bytes_before t u ≡ true → bytes_before s u ≡ true
unfolding bytes_before
bytes_trans s t [] p q = absurd (false≢true q)
bytes_trans s [] (z ∷ u) p q = absurd (false≢true p)
bytes_trans [] (y ∷ t) (z ∷ u) p q = refl
bytes_trans (x ∷ s) (y ∷ t) (z ∷ u) p q = less_trans x y z _ _ _ (bytes_trans s t u) p q

bytes_not : (s : List ℕ) → bytes_before s s ≡ true → ⊥
unfolding bytes_before
bytes_not [] p = false≢true p
bytes_not (x ∷ s) p = less_not x (bytes_before s s) (bytes_not s) p

pub earlier_trans : (p q r : Page) → earlier p q ≡ true → earlier q r ≡ true → earlier p r ≡ true
unfolding earlier
earlier_trans p q r h k =
    less_trans p.conditions q.conditions r.conditions _ _ _
    (less_trans (length p.lines) (length q.lines) (length r.lines) _ _ _ (bytes_trans (text_of p) (text_of q) (text_of r))) h k

pub earlier_not : (p : Page) → earlier p p ≡ true → ⊥
unfolding earlier
earlier_not p h = less_not p.conditions _ (less_not (length p.lines) _ (bytes_not (text_of p))) h

-- There is one list.
one_order : (ps qs : List Page) → InOrder ps → InOrder qs → ((r : Page) → StandsIn r ps → StandsIn r qs) → ((r : Page) → StandsIn r qs → StandsIn r ps) → ps ≡ qs
one_order [] [] a b f g = refl
one_order [] (q ∷ qs) a b f g = absurd (g q (inl refl))
one_order (p ∷ ps) [] a b f g = absurd (f p (inl refl))
one_order (p ∷ ps) (q ∷ qs) a b f g = ap₂ {C = List Page} (λ x xs. x ∷ xs) heads (one_order ps qs a.1 b.1 tail back)
  where
    heads : p ≡ q
    heads =
        elim (f p (inl refl)) [
          | inl e ↦ e
          | inr h ↦ elim (g q (inl refl)) [ inl e ↦ sym e | inr k ↦ absurd (earlier_not p (earlier_trans p q p (a.0 q k) (b.0 p h))) ]
        ]

    tail : (r : Page) → StandsIn r ps → StandsIn r qs
    tail r h =
        elim (f r (inr h)) [
          | inl e ↦ absurd (earlier_not p (subst (λ (x : Page). earlier p x ≡ true) (e ∙ sym heads) (a.0 r h)))
          | inr k ↦ k
        ]

    back : (r : Page) → StandsIn r qs → StandsIn r ps
    back r h =
        elim (g r (inr h)) [
          | inl e ↦ absurd (earlier_not q (subst (λ (x : Page). earlier q x ≡ true) (e ∙ heads) (b.0 r h)))
          | inr k ↦ k
        ]

pub small_pages_one : (ps qs : List Page) → AllSmallPages ps → AllSmallPages qs → ps ≡ qs
small_pages_one ps qs a b = one_order ps qs a.order b.order (λ r h. (b.exactly r).1 ((a.exactly r).0 h)) (λ r h. (a.exactly r).1 ((b.exactly r).0 h))

-- The lines that a small page may have.
fact_stands : (c l h : ℕ) → l ≤ h → h ≤ 1 → StandsIn (fact c l h) (facts_on c)
fact_stands c zero zero i j = inl refl
fact_stands c zero (suc zero) i j = inr (inl refl)
fact_stands c zero (suc (suc h)) i j = absurd (omega arith)
fact_stands c (suc l) zero i j = absurd (omega arith)
fact_stands c (suc zero) (suc zero) i j = inr (inr (inl refl))
fact_stands c (suc (suc l)) (suc zero) i j = absurd (omega arith)
fact_stands c (suc l) (suc (suc h)) i j = absurd (omega arith)

literal_stands : (n : ℕ) (l : Literal) → condition_of l < n → StandsIn l (map negative (numbers_below n) ++ map positive (numbers_below n))
literal_stands n (negative d) h = stands_left (negative d) (map negative (numbers_below n)) (map positive (numbers_below n)) (stands_map negative d (numbers_below n) (stands_below n d h))
literal_stands n (positive d) h = stands_right (positive d) (map negative (numbers_below n)) (map positive (numbers_below n)) (stands_map positive d (numbers_below n) (stands_below n d h))

line_stands : (n : ℕ) {line : Line} → SmallLine n line → StandsIn line (small_lines n)
unfolding small_lines
line_stands n (small_fact {c} {l} {h} i j k) =
    stands_left (fact c l h) (flat_map facts_on (numbers_below n)) (flat_map (rules_on n) (numbers_below n))
    (stands_flat facts_on c (fact c l h) (numbers_below n) (stands_below n c i) (fact_stands c l h j k))
line_stands n (small_rule {c} {l} i j) =
    stands_right (rule_with c l) (flat_map facts_on (numbers_below n)) (flat_map (rules_on n) (numbers_below n))
    (stands_flat (rules_on n) c (rule_with c l) (numbers_below n) (stands_below n c i)
    (stands_map (rule_with c) l (map negative (numbers_below n) ++ map positive (numbers_below n)) (literal_stands n l j)))

fact_small : (n c : ℕ) → c < n → (line : Line) → StandsIn line (facts_on c) → SmallLine n line
fact_small n c i line (inl e) = subst (SmallLine n) (sym e) (small_fact i (omega arith) (omega arith))
fact_small n c i line (inr (inl e)) = subst (SmallLine n) (sym e) (small_fact i (omega arith) (omega arith))
fact_small n c i line (inr (inr (inl e))) = subst (SmallLine n) (sym e) (small_fact i (omega arith) (omega arith))
fact_small n c i line (inr (inr (inr h))) = absurd h

literal_below : (n : ℕ) (l : Literal) → StandsIn l (map negative (numbers_below n) ++ map positive (numbers_below n)) → condition_of l < n
literal_below n l h =
    elim (stands_either l (map negative (numbers_below n)) (map positive (numbers_below n)) h) [
      | inl k ↦ let w = stands_image negative l (numbers_below n) k in omega (arith, ap condition_of w.2, below_stands n w.0 w.1)
      | inr k ↦ let w = stands_image positive l (numbers_below n) k in omega (arith, ap condition_of w.2, below_stands n w.0 w.1)
    ]

line_small : (n : ℕ) (line : Line) → StandsIn line (small_lines n) → SmallLine n line
unfolding small_lines
line_small n line h =
    elim (stands_either line (flat_map facts_on (numbers_below n)) (flat_map (rules_on n) (numbers_below n)) h) [
      | inl k ↦ let w = stands_part facts_on line (numbers_below n) k in fact_small n w.0 (below_stands n w.0 w.1) line w.2
      | inr k ↦
          let w = stands_part (rules_on n) line (numbers_below n) k in
          let v = stands_image (rule_with w.0) line (map negative (numbers_below n) ++ map positive (numbers_below n)) w.2 in
          subst (SmallLine n) (sym v.2) (small_rule (below_stands n w.0 w.1) (literal_below n v.0 v.1))
    ]

-- The pages of n conditions.
lines_stands : (n : ℕ) (ls : List Line) → length ls ≤ 2 → SmallLines n ls → StandsIn ls (([] ∷ one_of (small_lines n)) ++ two_of (small_lines n))
lines_stands n [] s h = inl refl
lines_stands n (l ∷ []) s h = inr (stands_left (l ∷ []) (one_of (small_lines n)) (two_of (small_lines n)) (stands_map (λ l. l ∷ []) l (small_lines n) (line_stands n h.0)))
lines_stands n (l ∷ m ∷ []) s h =
    inr (stands_right (l ∷ m ∷ []) (one_of (small_lines n)) (two_of (small_lines n))
    (stands_flat (λ l. map (λ m. l ∷ m ∷ []) (small_lines n)) l (l ∷ m ∷ []) (small_lines n) (line_stands n h.0)
    (stands_map (λ m. l ∷ m ∷ []) m (small_lines n) (line_stands n h.1.0))))
lines_stands n (l ∷ m ∷ k ∷ ls) s h = absurd (omega arith)

abbrev FewSmall : ℕ → List Line → Type 0
FewSmall n ls = (length ls ≤ 2) × SmallLines n ls

lines_small : (n : ℕ) (ls : List Line) → StandsIn ls (([] ∷ one_of (small_lines n)) ++ two_of (small_lines n)) → FewSmall n ls
lines_small n ls (inl e) = subst (FewSmall n) (sym e) (omega arith, tt)
lines_small n ls (inr h) =
    elim (stands_either ls (one_of (small_lines n)) (two_of (small_lines n)) h) [
      | inl k ↦
          let w = stands_image (λ l. l ∷ []) ls (small_lines n) k in
          subst (FewSmall n) (sym w.2) (omega arith, (line_small n w.0 w.1, tt))
      | inr k ↦
          let w = stands_part (λ l. map (λ m. l ∷ m ∷ []) (small_lines n)) ls (small_lines n) k in
          let v = stands_image (λ m. w.0 ∷ m ∷ []) ls (small_lines n) w.2 in
          subst (FewSmall n) (sym v.2) (omega arith, (line_small n w.0 w.1, (line_small n v.0 v.1, tt)))
    ]

pages_stands : (n : ℕ) (ls : List Line) → length ls ≤ 2 → SmallLines n ls → StandsIn (page_with n ls) (small_pages_of n)
unfolding small_pages_of
pages_stands n ls s h = stands_map (page_with n) ls (([] ∷ one_of (small_lines n)) ++ two_of (small_lines n)) (lines_stands n ls s h)

pages_small : (n : ℕ) → 1 ≤ n → n ≤ 2 → (p : Page) → StandsIn p (small_pages_of n) → SmallPage p
unfolding small_pages_of
pages_small n i j p h =
    let w = stands_image (page_with n) p (([] ∷ one_of (small_lines n)) ++ two_of (small_lines n)) h in
    let v = lines_small n w.0 w.1 in
    subst SmallPage (sym w.2) (record { top_is = refl; conditions_least = i; conditions_most = j; few_lines = v.0; each = v.1 })

stands_small : (p : Page) → SmallPage p → StandsIn p small_pages
unfolding small_pages
stands_small p w = go p.conditions refl
  where
    is : (n : ℕ) → p.conditions ≡ n → StandsIn (page_with n p.lines) small_pages → StandsIn p small_pages
    is n e h = subst (λ (q : Page). StandsIn q small_pages) (λ i. record { top = sym w.top_is i; conditions = sym e i; lines = p.lines }) h

    go : (n : ℕ) → p.conditions ≡ n → StandsIn p small_pages
    go zero e = absurd (omega (arith, w.conditions_least))
    go (suc zero) e = is 1 e (stands_left (page_with 1 p.lines) (small_pages_of 1) (small_pages_of 2) (pages_stands 1 p.lines w.few_lines (subst (λ (n : ℕ). SmallLines n p.lines) e w.each)))
    go (suc (suc zero)) e = is 2 e (stands_right (page_with 2 p.lines) (small_pages_of 1) (small_pages_of 2) (pages_stands 2 p.lines w.few_lines (subst (λ (n : ℕ). SmallLines n p.lines) e w.each)))
    go (suc (suc (suc n))) e = absurd (omega (arith, w.conditions_most))

small_stands : (p : Page) → StandsIn p small_pages → SmallPage p
unfolding small_pages
small_stands p h =
    elim (stands_either p (small_pages_of 1) (small_pages_of 2) h) [
      | inl k ↦ pages_small 1 (omega arith) (omega arith) p k
      | inr k ↦ pages_small 2 (omega arith) (omega arith) p k
    ]

-- The order of the list: each page comes before the next.
abbrev climbs : List Page → Bool
climbs [] = true
climbs (p ∷ []) = true
climbs (p ∷ q ∷ ps) = earlier p q && climbs (q ∷ ps)

both : (a b : Bool) → (a && b) ≡ true → (a ≡ true) × (b ≡ true)
both true b e = (refl, e)
both false b e = absurd (false≢true e)

climbs_order : (ps : List Page) → climbs ps ≡ true → InOrder ps
climbs_order [] e = tt
climbs_order (p ∷ []) e = ((λ q h. absurd h), tt)
climbs_order (p ∷ q ∷ ps) e = go (climbs_order (q ∷ ps) (both (earlier p q) (climbs (q ∷ ps)) e).1)
  where
    go : InOrder (q ∷ ps) → InOrder (p ∷ q ∷ ps)
    go w = (behind, w)
      where
        behind : (r : Page) → StandsIn r (q ∷ ps) → earlier p r ≡ true
        behind r (inl k) = subst (λ (x : Page). earlier p x ≡ true) (sym k) (both (earlier p q) (climbs (q ∷ ps)) e).0
        behind r (inr k) = earlier_trans p q r (both (earlier p q) (climbs (q ∷ ps)) e).0 (w.0 r k)

small_climbs : climbs small_pages ≡ true
unfolding small_pages small_pages_of small_lines flat_map earlier bytes_before text_of number_text number_within
small_climbs = refl

-- all small pages, and nothing else, in their order
pub small_pages_lem : AllSmallPages small_pages
small_pages_lem = record { exactly = λ p. (small_stands p, stands_small p); order = climbs_order small_pages small_climbs }

-- "as numbers 0 to 241"
pub small_count : length small_pages ≡ 242
unfolding small_pages small_pages_of small_lines flat_map
small_count = refl

-- a later number is a later page
at_order : (d : Page) (ps : List Page) → InOrder ps → (j k : ℕ) → j < k → k < length ps → earlier (get_or ps j d) (get_or ps k d) ≡ true
at_order d [] w j k h i = absurd (omega arith)
at_order d (p ∷ ps) w j zero h i = absurd (omega arith)
at_order d (p ∷ ps) w zero (suc k) h i = w.0 (get_or ps k d) (stands_at d ps k (omega arith))
at_order d (p ∷ ps) w (suc j) (suc k) h i = at_order d ps w.1 j k (omega arith) (omega arith)

pub small_earlier : (j k : ℕ) → j < k → k < 242 → earlier (small_page j) (small_page k) ≡ true
small_earlier j k h i = at_order (page_with 1 []) small_pages small_pages_lem.order j k h (omega (arith, small_count))

pub small_is : (k : ℕ) → k < 242 → SmallPage (small_page k)
small_is k h = (small_pages_lem.exactly (small_page k)).0 (stands_at (page_with 1 []) small_pages k (omega (arith, small_count)))

-- "Each page stands in the list exactly once": it has one number
pub record Numbered (p : Page) : Type 0 where
  pub number : ℕ
  pub most : number ≤ 241
  pub is : small_page number ≡ p
  pub only : (k : ℕ) → k ≤ 241 → small_page k ≡ p → k ≡ number

one_number : (j k : ℕ) → j ≤ 241 → k ≤ 241 → small_page j ≡ small_page k → ¬ (j < k)
one_number j k h i e l = earlier_not (small_page k) (subst (λ (p : Page). earlier p (small_page k) ≡ true) e (small_earlier j k l (omega arith)))

pub small_once : (p : Page) → SmallPage p → Numbered p
small_once p w =
    let m = place_of (page_with 1 []) p small_pages ((small_pages_lem.exactly p).1 w) in
    let l : m.0 ≤ 241 = omega (arith, m.1, small_count) in
    record { number = m.0; most = l; is = m.2; only = λ k h e. omega (arith, one_number k m.0 h l (e ∙ sym m.2), one_number m.0 k l h (m.2 ∙ sym e)) }

-- no text is longer than 28 bytes
abbrev all_short : List Page → Bool
all_short [] = true
all_short (p ∷ ps) = leb (length (text_of p)) 28 && all_short ps

short_at : (d : Page) (ps : List Page) → all_short ps ≡ true → (k : ℕ) → k < length ps → length (text_of (get_or ps k d)) ≤ 28
short_at d [] e k h = absurd (omega arith)
short_at d (p ∷ ps) e zero h = leb-true (length (text_of p)) 28 (both (leb (length (text_of p)) 28) (all_short ps) e).0
short_at d (p ∷ ps) e (suc k) h = short_at d ps (both (leb (length (text_of p)) 28) (all_short ps) e).1 k (omega arith)

all_short_lem : all_short small_pages ≡ true
unfolding small_pages small_pages_of small_lines flat_map text_of number_text number_within
all_short_lem = refl

pub small_short : (k : ℕ) → k < 242 → length (small_text k) ≤ 28
small_short k h = short_at (page_with 1 []) small_pages all_short_lem k (omega (arith, small_count))

-- The reader accepts each.
line_ranged : (n : ℕ) {line : Line} → SmallLine n line → InRange 1 n line
line_ranged n (small_fact i j k) = (i, j, k)
line_ranged n (small_rule i j) = (i, omega arith, omega arith, omega arith, omega arith, (j, tt))

lines_ranged : (n : ℕ) (ls : List Line) → SmallLines n ls → AllInRange 1 n ls
lines_ranged n [] h = tt
lines_ranged n (l ∷ ls) h = (line_ranged n h.0, lines_ranged n ls h.1)

-- none has a D line
line_single : (n : ℕ) (l : Line) (ls : List Line) → SmallLine n l → (c : ℕ) → defaults (l ∷ ls) c ≡ defaults ls c
unfolding defaults
line_single n l ls (small_fact i j k) c = refl
line_single n l ls (small_rule i j) c = refl

lines_single : (n : ℕ) (ls : List Line) → SmallLines n ls → (c : ℕ) → defaults ls c ≡ 0
unfolding defaults
lines_single n [] h c = refl
lines_single n (l ∷ ls) h c = line_single n l ls h.0 c ∙ lines_single n ls h.1 c

pub small_proper : (p : Page) → SmallPage p → Proper p
small_proper p w =
    record {
      top_least = omega (arith, w.top_is);
      top_most = omega (arith, w.top_is);
      conditions_least = w.conditions_least;
      conditions_most = omega (arith, w.conditions_most);
      ranged = rw w.top_is (lines_ranged p.conditions p.lines w.each);
      single = λ c. omega (arith, lines_single p.conditions p.lines w.each c);
    }

-- "the reader, lent a page area long enough, accepts each", and reads the page that was written
pub small_read : (p : Page) → SmallPage p → (area : List ℕ) → used_of (area_of p) ≤ length area
    → read_of (text_of p) area ≡ record { answer = read_page (used_of (area_of p)); area = area_of p ++ drop (used_of (area_of p)) area }
small_read p w = written_read p (small_proper p w) (omega (arith, w.few_lines))
