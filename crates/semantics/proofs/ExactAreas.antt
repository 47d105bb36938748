-- The sound areas are exactly the areas of proper pages of at most 1,024 lines, with anything behind them. Assumes nothing.
use mathlib.Core.Path.{◌≡◌, refl, sym, ◌∙◌, ap, ap₂, subst}
use mathlib.Core.Logic.{◌≢◌, ◌↔◌}
use mathlib.Core.Bool.{Bool, true, false, cond, false≢true}
use mathlib.Core.List.{List, [], ◌∷◌, ◌++◌, map, append_assoc}
use Prim.Native.Nat.{ℕ, zero, suc, ◌+◌, ◌*◌, ◌-◌, ◌/◌, ◌%◌, ◌≤◌, ◌<◌}
use native.Mathlib.Omega.{arith}
use lib.Dec.{eqb, leb}
use lib.ListN.{length, get_or, take, drop, length-map, length-append, length-take, length-drop, take-append-drop}
use lib.Seq.{take_at, take-add, get_or-take, get_or-drop, drop-drop}
use borrow.Author.Tests.{leb-true, eqb-true, eqb-false, le-leb, lt-ltb, eq-eqb}
use Rattle.semantics.specs.Area.{Kind, fact_kind, rule_kind, query_kind, default_kind, no_kind, kind, span_as, span, literal_of, literals_at, line_as, line_at, line_tests, lines_of, page_of, every, all_under, field_tests, head_tests, lines_ok, default_tests, defaults_ok, sound_to, sound, head_length, first_line, default_of, top_of, conditions_of, count_of, used_of, kind_of, code_of, line_code, line_codes, area_of}
use Rattle.semantics.specs.Page.{Literal, positive, negative, K, W, Line, fact, rule, query, default, Page, defaults}
use Rattle.semantics.proofs.Proper.{LiteralsBelow, InRange, AllInRange, Proper}
use Rattle.semantics.proofs.RoundTrip.{kind_of_lem, line_span, default_numbers, lines_begin, page_area, default_area}
use Rattle.semantics.proofs.Soundness.{both_true, Every, every_true, every_of, Sound, parts_to, sound_proper, few_lines}
use Rattle.semantics.proofs.Table.{length_from, table_is, all_true}
use Rattle.semantics.specs.Body.{unknown_by_default}
use Rattle.fixpoint.specs.Sum.{bit}

-- a proper page's area is sound
under_codes : (n : ℕ) (ls : List Literal) → LiteralsBelow n ls → all_under (2 * n) (map code_of ls) ≡ true
unfolding all_under
under_codes n [] w = refl
under_codes n (positive c ∷ ls) w = rw (lt-ltb (2 * c) (2 * n) (omega arith), under_codes n ls w.1)
under_codes n (negative c ∷ ls) w = rw (lt-ltb (2 * c + 1) (2 * n) (omega arith), under_codes n ls w.1)

line_passes : (top n left : ℕ) (l : Line) (r : List ℕ) → InRange top n l → length (line_code l) ≤ left → every (line_tests top n left (line_code l ++ r)) ≡ true
unfolding kind span
line_passes top n left (fact c l h) r w f = rw (le-leb 4 left f, lt-ltb c n w.0, le-leb l h w.1, le-leb h top w.2)
line_passes top n left (rule c v op lits) r w f =
    rw (
      kind_of_lem op,
      le-leb (4 + length lits) left (omega (arith, length-map lits code_of)),
      lt-ltb c n w.0,
      le-leb 1 v w.1,
      le-leb v top w.2,
      le-leb 1 (length lits) w.3,
      le-leb (length lits) 8 w.4,
      take_at (map code_of lits) r (length lits) (length-map lits code_of),
      under_codes n lits w.5,
    )
line_passes top n left (query K c) r w f = rw (le-leb 4 left f, lt-ltb c n w)
line_passes top n left (query W c) r w f = rw (le-leb 4 left f, lt-ltb c n w)
line_passes top n left (default c) r w f = rw (le-leb 4 left f, lt-ltb c n w)

span_code : (l : Line) (r : List ℕ) → span (line_code l ++ r) ≡ length (line_code l)
unfolding kind span
span_code (fact c l h) r = refl
span_code (rule c v op lits) r = rw (kind_of_lem op) (omega (arith, length-map lits code_of))
span_code (query K c) r = refl
span_code (query W c) r = refl
span_code (default c) r = refl

lines_pass : (top n left : ℕ) (ls : List Line) (z : List ℕ) → AllInRange top n ls → left ≡ length (line_codes ls) → lines_ok top n (length ls) left (line_codes ls ++ z) ≡ true
unfolding lines_ok line_codes
lines_pass top n left [] z w e = eq-eqb left 0 e
lines_pass top n left (l ∷ ls) z w e =
    rw (append_assoc (line_code l) (line_codes ls) z)
    (rw (line_passes top n left l (line_codes ls ++ z) w.0 (omega (arith, length-append (line_code l) (line_codes ls))))
    (rw (line_span l (line_codes ls ++ z))
    (lines_pass top n (left - span (line_code l ++ (line_codes ls ++ z))) ls z w.1 (omega (arith, span_code l (line_codes ls ++ z), length-append (line_code l) (line_codes ls))))))

bit_few : (d : ℕ) → d ≤ 1 → bit (leb 1 d) ≡ d
bit_few zero h = refl
bit_few (suc zero) h = refl
bit_few (suc (suc d)) h = absurd (omega arith)

bit_most : (t : Bool) → bit t ≤ 1
bit_most true = omega arith
bit_most false = omega arith

module _ {most : ℕ} (page : Page) (z : List ℕ) (w : Proper page) (few : length page.lines ≤ most) where
  abbrev whole : List ℕ
  whole = area_of page ++ z

  size : length whole ≡ 4 + (page.conditions + (length (line_codes page.lines) + length z))
  unfolding area_of
  size =
      omega (
        arith,
        length-append (default_numbers page ++ line_codes page.lines) z,
        length-append (default_numbers page) (line_codes page.lines),
        length_from page.conditions 0 (λ c. bit (unknown_by_default page c)),
      )

  head_passes : Every (head_tests most whole)
  unfolding area_of
  head_passes =
      let u : ℕ = head_length page.conditions + length (line_codes page.lines) in (
        le-leb 4 (length whole) (omega (arith, size)),
        (
          le-leb (head_length page.conditions) u (omega arith),
          (
            le-leb u (length whole) (omega (arith, size)),
            (
              le-leb 1 page.top w.top_least,
              (
                le-leb page.top 200 w.top_most,
                (
                  le-leb 1 page.conditions w.conditions_least,
                  (
                    le-leb page.conditions 512 w.conditions_most,
                    (
                      le-leb (length page.lines) most few,
                      tt,
                    ),
                  ),
                ),
              ),
            ),
          ),
        ),
      )

  numbers_pass : defaults_ok whole ≡ true
  unfolding defaults_ok unknown_by_default
  numbers_pass =
      all_true (conditions_of whole) (λ c. every (default_tests whole c))
      (λ c l.
      let d = default_area page z c (subst (λ (k : ℕ). c < k) (ap (λ (p : Page). p.conditions) (page_area page z)) (unfold page_of in l)) in
      let e : defaults (page_of whole).lines c ≡ defaults page.lines c = ap (λ (p : Page). defaults p.lines c) (page_area page z) in
      every_of (default_tests whole c) (
        le-leb (default_of whole c) 1 (omega (arith, d, bit_most (unknown_by_default page c))),
        (
          eq-eqb (default_of whole c) (defaults (page_of whole).lines c) (d ∙ bit_few (defaults page.lines c) (w.single c) ∙ sym e),
          tt,
        ),
      ))

  lines_whole : lines_ok (top_of whole) (conditions_of whole) (count_of whole) (used_of whole - first_line whole) (drop (first_line whole) whole) ≡ true
  unfolding area_of
  lines_whole =
      let n = length (line_codes page.lines) in
      subst (λ (p : List ℕ). lines_ok page.top page.conditions (length page.lines) (head_length page.conditions + n - head_length page.conditions) p ≡ true)
      (sym (lines_begin page z))
      (lines_pass page.top page.conditions (head_length page.conditions + n - head_length page.conditions) page.lines z w.ranged (omega arith))

  pub proper_sound : sound_to most whole ≡ true
  unfolding sound_to
  proper_sound = every_of (every (head_tests most whole) ∷ _ ∷ defaults_ok whole ∷ []) (every_of (head_tests most whole) head_passes, (lines_whole, (numbers_pass, tt)))

-- a sound area is the area of its page
pub code_literal : (x : ℕ) → code_of (literal_of x) ≡ x
code_literal x = go (eqb (x % 2) 0) refl
  where
    go : (t : Bool) → eqb (x % 2) 0 ≡ t → code_of (cond t (positive (x / 2)) (negative (x / 2))) ≡ x
    go true e = omega (arith, eqb-true (x % 2) 0 e)
    go false e = let h : x % 2 ≢ 0 = eqb-false (x % 2) 0 e in omega arith

code_literals : (xs : List ℕ) → map code_of (map literal_of xs) ≡ xs
code_literals [] = refl
code_literals (x ∷ xs) = ap₂ {C = List ℕ} (λ y ys. y ∷ ys) (code_literal x) (code_literals xs)

abbrev number_of : Kind → ℕ
number_of fact_kind = 0
number_of (rule_kind op) = kind_of op
number_of query_kind = 6
number_of default_kind = 7
number_of no_kind = 8

abbrev Known : Kind → Type 0
Known fact_kind = Unit {0}
Known (rule_kind op) = Unit {0}
Known query_kind = Unit {0}
Known default_kind = Unit {0}
Known no_kind = ⊥

kind_back : (k : ℕ) → Known (kind k) → number_of (kind k) ≡ k
unfolding kind
kind_back zero w = refl
kind_back (suc zero) w = refl
kind_back (suc (suc zero)) w = refl
kind_back (suc (suc (suc zero))) w = refl
kind_back (suc (suc (suc (suc zero)))) w = refl
kind_back (suc (suc (suc (suc (suc zero))))) w = refl
kind_back (suc (suc (suc (suc (suc (suc zero)))))) w = refl
kind_back (suc (suc (suc (suc (suc (suc (suc zero))))))) w = refl
kind_back (suc (suc (suc (suc (suc (suc (suc (suc k)))))))) w = absurd w

reading_back : (x c : ℕ) → x ≤ 1 → line_code (query (cond (eqb x 0) K W) c) ≡ c ∷ 6 ∷ x ∷ 0 ∷ []
reading_back zero c h = refl
reading_back (suc zero) c h = refl
reading_back (suc (suc x)) c h = absurd (omega arith)

entry_back : (top n a k x y : ℕ) (q : List ℕ) (t : Kind) → (Known t → number_of t ≡ k) → Every (field_tests top n t x y (take y q)) → span_as t y ≤ length (a ∷ k ∷ x ∷ y ∷ q)
    → take (span_as t y) (a ∷ k ∷ x ∷ y ∷ q) ≡ line_code (line_as t a x y (take y q))
entry_back top n a k x y q fact_kind e h s = rw (← e tt)
entry_back top n a k x y q (rule_kind op) e h s =
    let four : 4 + y ≡ suc (suc (suc (suc y))) = omega arith in
    let size : length (map literal_of (take y q)) ≡ y = simp (length-map, length-take) (omega arith) in
    rw (four, size, code_literals (take y q), e tt)
entry_back top n a k x y q query_kind e h s =
    rw (← e tt, eqb-true y 0 h.1.0) (sym (reading_back x a (leb-true x 1 h.0)))
entry_back top n a k x y q default_kind e h s = rw (← e tt, eqb-true x 0 h.0, eqb-true y 0 h.1.0)
entry_back top n a k x y q no_kind e h s = absurd (false≢true h.0)

span_least : (t : Kind) (y : ℕ) → 4 ≤ span_as t y
span_least fact_kind y = omega arith
span_least (rule_kind op) y = omega arith
span_least query_kind y = omega arith
span_least default_kind y = omega arith
span_least no_kind y = omega arith

pub line_back : (top n left : ℕ) (p : List ℕ) → left ≤ length p → Every (line_tests top n left p) → take (span p) p ≡ line_code (line_at p)
unfolding span
line_back top n left p l h = go p (omega (arith, leb-true (span p) left h.0)) h.1.1
  where
    go : (p : List ℕ) → span p ≤ length p → Every (field_tests top n (kind (get_or p 1 0)) (get_or p 2 0) (get_or p 3 0) (literals_at p)) → take (span p) p ≡ line_code (line_at p)
    go [] s h = absurd (omega (arith, span_least (kind 0) 0))
    go (a ∷ []) s h = absurd (omega (arith, span_least (kind 0) 0))
    go (a ∷ k ∷ []) s h = absurd (omega (arith, span_least (kind k) 0))
    go (a ∷ k ∷ x ∷ []) s h = absurd (omega (arith, span_least (kind k) 0))
    go (a ∷ k ∷ x ∷ y ∷ q) s h = entry_back top n a k x y q (kind k) (kind_back k) h s

lines_back : (top n k left : ℕ) (p : List ℕ) → left ≤ length p → lines_ok top n k left p ≡ true → take left p ≡ line_codes (lines_of k p)
unfolding lines_ok lines_of line_codes
lines_back top n zero left p l e = rw (eqb-true left 0 e)
lines_back top n (suc k) left p l e =
    let b = both_true (every (line_tests top n left p)) (lines_ok top n k (left - span p) (drop (span p) p)) e in
    let h = every_true (line_tests top n left p) b.0 in
    let f : span p ≤ left = leb-true (span p) left h.0 in
    let g : left ≡ span p + (left - span p) = omega arith in
    ap (λ (j : ℕ). take j p) g ∙ take-add (span p) (left - span p) p
    ∙ ap₂ {C = List ℕ} (λ u v. u ++ v) (line_back top n left p l h) (lines_back top n k (left - span p) (drop (span p) p) (simp length-drop (omega arith)) b.1)

length_lines : (k : ℕ) (p : List ℕ) → length (lines_of k p) ≡ k
unfolding lines_of
length_lines zero p = refl
length_lines (suc k) p = ap suc (length_lines k (drop (span p) p))

-- the D numbers of a sound area are those of its page
defaults_back : (most : ℕ) (a : List ℕ) → Sound most a → take (conditions_of a) (drop 4 a) ≡ default_numbers (page_of a)
unfolding unknown_by_default page_of
defaults_back most a s =
    sym (table_is 0 (take (conditions_of a) (drop 4 a)) (conditions_of a) (λ c. bit (unknown_by_default (page_of a) c))
    (simp (length-take, length-drop) (omega (arith, leb-true (first_line a) (used_of a) s.head.1.0, leb-true (used_of a) (length a) s.head.1.1.0)))
    (λ c l. get_or-take (conditions_of a) (drop 4 a) c 0 l ∙ get_or-drop 4 a c 0 ∙ s.told c l ∙ sym (bit_few (defaults (page_of a).lines c) (omega (arith, s.single c l, s.told c l)))))

head_back : (a : List ℕ) {n : ℕ} (ds cs : List ℕ) → 4 ≤ length a → n ≡ conditions_of a → take (conditions_of a + length cs) (drop 4 a) ≡ ds ++ cs → used_of a ≡ head_length n + length cs
    → take (used_of a) a ≡ top_of a ∷ conditions_of a ∷ count_of a ∷ used_of a ∷ (ds ++ cs)
head_back [] ds cs f m e u = absurd (omega arith)
head_back (t ∷ []) ds cs f m e u = absurd (omega arith)
head_back (t ∷ c ∷ []) ds cs f m e u = absurd (omega arith)
head_back (t ∷ c ∷ k ∷ []) ds cs f m e u = absurd (omega arith)
head_back (t ∷ c ∷ k ∷ v ∷ q) ds cs f m e u =
    let four : v ≡ suc (suc (suc (suc (c + length cs)))) = omega arith in
    ap (λ (j : ℕ). take j (t ∷ c ∷ k ∷ v ∷ q)) four ∙ ap (λ (l : List ℕ). t ∷ c ∷ k ∷ v ∷ l) e

pub exact_to : (most : ℕ) (a : List ℕ) → sound_to most a ≡ true → take (used_of a) a ≡ area_of (page_of a)
unfolding page_of area_of
exact_to most a e =
    let s = parts_to most a e in
    let h = s.head in
    let n = conditions_of a in
    let f : first_line a ≤ used_of a = leb-true (first_line a) (used_of a) h.1.0 in
    let g : used_of a ≤ length a = leb-true (used_of a) (length a) h.1.1.0 in
    let ls = lines_of (count_of a) (drop (first_line a) a) in
    let cs : take (used_of a - first_line a) (drop (first_line a) a) ≡ line_codes ls =
    lines_back (top_of a) n (count_of a) (used_of a - first_line a) (drop (first_line a) a) (simp length-drop (omega arith)) s.lines in
    let m : length (line_codes ls) ≡ used_of a - first_line a =
    ap length (sym cs) ∙ simp (length-take, length-drop) (omega arith) in
    let both : take (n + length (line_codes ls)) (drop 4 a) ≡ default_numbers (page_of a) ++ line_codes ls =
    take-add n (length (line_codes ls)) (drop 4 a)
    ∙ ap₂ {C = List ℕ} (λ x y. x ++ y) (defaults_back most a s)
    (ap (λ (p : List ℕ). take (length (line_codes ls)) p) (drop-drop n 4 a) ∙ ap (λ (k : ℕ). take k (drop (first_line a) a)) m ∙ cs) in
    let u : used_of a ≡ head_length n + length (line_codes ls) = omega (arith, m) in
    head_back a (default_numbers (page_of a)) (line_codes ls) (leb-true 4 (length a) h.0) refl both u
    ∙ ap₂ {C = List ℕ} (λ x y. top_of a ∷ n ∷ x ∷ y ∷ (default_numbers (page_of a) ++ line_codes ls)) (sym (length_lines (count_of a) (drop (first_line a) a))) u

pub sound_exact : (a : List ℕ) → sound a ≡ true → take (used_of a) a ≡ area_of (page_of a)
sound_exact = exact_to 1024

-- sound areas are exactly the areas of proper pages of at most 1,024 lines, with anything behind them
pub record AreaOfPage (a : List ℕ) : Type 0 where
  pub page : Page
  pub rest : List ℕ
  pub proper : Proper page
  pub few : length page.lines ≤ 1024
  pub is : a ≡ area_of page ++ rest

pub sound_iff : (a : List ℕ) → (sound a ≡ true) ↔ AreaOfPage a
sound_iff a = (
  λ e. record {
    page = page_of a;
    rest = drop (used_of a) a;
    proper = sound_proper a e;
    few = few_lines 1024 a e;
    is = sym (take-append-drop (used_of a) a) ∙ ap (λ (l : List ℕ). l ++ drop (used_of a) a) (sound_exact a e);
  },
  λ r. subst (λ (l : List ℕ). sound l ≡ true) (sym r.is) (proper_sound r.page r.rest r.proper r.few),
)
