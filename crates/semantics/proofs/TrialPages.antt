-- The page that a trial changes. It is proper, and has at most C lines more. A condition that the trial names has the one F line that the last line of
-- its name gives, any other condition has its own F lines, and every line of another kind stays. Assumes nothing.
use mathlib.Core.Path.{◌≡◌, refl, sym, ◌∙◌, ap, ap₂}
use mathlib.Core.Logic.{◌↔◌}
use mathlib.Core.Bool.{Bool, true, false, cond}
use mathlib.Core.List.{List, [], ◌∷◌, ◌++◌, append-nil}
use mathlib.Core.Option.{Option, none, some}
use Prim.Native.Nat.{ℕ, zero, suc, ◌+◌, ◌*◌, ◌≤◌, ◌<◌}
use native.Mathlib.Decide.{ℕ_discrete}
use native.Mathlib.Omega.{arith}
use lib.Dec.{eqb, leb}
use lib.ListN.{length, length-append}
use borrow.Author.Tests.{eq-eqb, ne_eqb, eqb-false}
use Rattle.fixpoint.specs.Interval.{Interval}
use Rattle.fixpoint.specs.Sum.{bit}
use Rattle.semantics.specs.Area.{line_code, line_codes}
use Rattle.semantics.specs.Body.{unknown_by_default}
use Rattle.semantics.specs.Output.{Query, queries_of}
use Rattle.semantics.specs.Page.{Line, fact, rule, query, default, Page, defaults}
use Rattle.semantics.specs.ReadPage.{or_else}
use Rattle.semantics.specs.Trials.{TrialLine, interval_for, tried, kept_if, kept_lines, fact_if, tried_facts, changed_page}
use Rattle.semantics.proofs.FieldRanges.{some_none, else_none}
use Rattle.semantics.proofs.Proper.{InRange, AllInRange, Proper}
use Rattle.semantics.proofs.TrialLists.{AllTried}

-- Which line gives a condition its interval: "the last such line".
else_assoc : {A : Type 0} (o p q : Option A) → or_else (or_else o p) q ≡ or_else o (or_else p q)
else_assoc (some x) p q = refl
else_assoc none p q = refl

pub tried_append : (ts us : List TrialLine) (c : ℕ) → tried (ts ++ us) c ≡ or_else (tried us c) (tried ts c)
unfolding tried
tried_append [] us c = nothing (tried us c)
  where
    nothing : (o : Option Interval) → o ≡ or_else o none
    nothing none = refl
    nothing (some p) = refl
tried_append (t ∷ ts) us c =
    ap (λ (o : Option Interval). or_else o (interval_for t c)) (tried_append ts us c) ∙ else_assoc (tried us c) (tried ts c) (interval_for t c)

-- no line names c
abbrev pub Unnamed : ℕ → List TrialLine → Type 0
Unnamed c [] = Unit {0}
Unnamed c (t ∷ ts) = (t.condition ≡ c → ⊥) × Unnamed c ts

unnamed_none : (ts : List TrialLine) (c : ℕ) → Unnamed c ts → tried ts c ≡ none
unfolding tried
unnamed_none [] c u = refl
unnamed_none (t ∷ ts) c u = rw (unnamed_none ts c u.1, ne_eqb t.condition c u.0)

none_unnamed : (ts : List TrialLine) (c : ℕ) → tried ts c ≡ none → Unnamed c ts
unfolding tried
none_unnamed [] c e = tt
none_unnamed (t ∷ ts) c e =
    let w = else_none (tried ts c) (interval_for t c) e in
    (go (eqb t.condition c) refl w.1, none_unnamed ts c w.0)
  where
    go : (b : Bool) → eqb t.condition c ≡ b → cond {A = Option Interval} b (some (record { low = t.low; high = t.high })) none ≡ none → t.condition ≡ c → ⊥
    go true p e = some_none e
    go false p e = eqb-false t.condition c p

pub tried_none : (ts : List TrialLine) (c : ℕ) → (tried ts c ≡ none) ↔ Unnamed c ts
tried_none ts c = (none_unnamed ts c, unnamed_none ts c)

pub tried_last : (before : List TrialLine) (t : TrialLine) (after : List TrialLine) → Unnamed t.condition after
    → tried (before ++ (t ∷ after)) t.condition ≡ some (record { low = t.low; high = t.high })
unfolding tried
tried_last before t after u =
    tried_append before (t ∷ after) t.condition
    ∙ rw (unnamed_none after t.condition u, eq-eqb t.condition t.condition refl)

-- Lines that are no F lines.
unfoldable pub others_of : List Line → List Line
others_of [] = []
others_of (fact c l h ∷ ls) = others_of ls
others_of (rule c w op lits ∷ ls) = rule c w op lits ∷ others_of ls
others_of (query r c ∷ ls) = query r c ∷ others_of ls
others_of (default c ∷ ls) = default c ∷ others_of ls

others_append : (xs ys : List Line) → others_of (xs ++ ys) ≡ others_of xs ++ others_of ys
unfolding others_of
others_append [] ys = refl
others_append (fact c x y ∷ xs) ys = others_append xs ys
others_append (rule c v op lits ∷ xs) ys = ap (λ (ls : List Line). rule c v op lits ∷ ls) (others_append xs ys)
others_append (query r c ∷ xs) ys = ap (λ (ls : List Line). query r c ∷ ls) (others_append xs ys)
others_append (default c ∷ xs) ys = ap (λ (ls : List Line). default c ∷ ls) (others_append xs ys)

others_kept : (ts : List TrialLine) (ls : List Line) → others_of (kept_lines ts ls) ≡ others_of ls
unfolding kept_lines others_of
others_kept ts [] = refl
others_kept ts (fact c x y ∷ ls) = go (tried ts c) (others_kept ts ls)
  where
    go : (o : Option Interval) → others_of (kept_lines ts ls) ≡ others_of ls → others_of (kept_if o (fact c x y) ++ kept_lines ts ls) ≡ others_of ls
    go none e = e
    go (some p) e = e
others_kept ts (rule c v op lits ∷ ls) = ap (λ (ms : List Line). rule c v op lits ∷ ms) (others_kept ts ls)
others_kept ts (query r c ∷ ls) = ap (λ (ms : List Line). query r c ∷ ms) (others_kept ts ls)
others_kept ts (default c ∷ ls) = ap (λ (ms : List Line). default c ∷ ms) (others_kept ts ls)

others_facts : (ts : List TrialLine) (k c : ℕ) → others_of (tried_facts ts k c) ≡ []
unfolding tried_facts others_of
others_facts ts zero c = refl
others_facts ts (suc k) c = go (tried ts c) (others_facts ts k (suc c))
  where
    go : (o : Option Interval) → others_of (tried_facts ts k (suc c)) ≡ [] → others_of (fact_if c o ++ tried_facts ts k (suc c)) ≡ []
    go none e = e
    go (some p) e = e

-- every line that is no F line stays, in its order
pub changed_others : (page : Page) (ts : List TrialLine) → others_of (changed_page page ts).lines ≡ others_of page.lines
unfolding changed_page
changed_others page ts =
    let n = page.conditions in
    others_append (kept_lines ts page.lines) (tried_facts ts n 0)
    ∙ ap₂ {C = List Line} (λ xs ys. xs ++ ys) (others_kept ts page.lines) (others_facts ts n 0)
    ∙ append-nil (others_of page.lines)

-- so what is told of such lines alone is the same
defaults_others : (ls : List Line) (c : ℕ) → defaults (others_of ls) c ≡ defaults ls c
unfolding defaults others_of
defaults_others [] c = refl
defaults_others (fact d x y ∷ ls) c = defaults_others ls c
defaults_others (rule d v op lits ∷ ls) c = defaults_others ls c
defaults_others (query r d ∷ ls) c = defaults_others ls c
defaults_others (default d ∷ ls) c = ap (λ (k : ℕ). bit (eqb d c) + k) (defaults_others ls c)

queries_others : (ls : List Line) → queries_of (others_of ls) ≡ queries_of ls
unfolding queries_of others_of
queries_others [] = refl
queries_others (fact d x y ∷ ls) = queries_others ls
queries_others (rule d v op lits ∷ ls) = queries_others ls
queries_others (query r d ∷ ls) = ap (λ (qs : List Query). record { reading = r; condition = d } ∷ qs) (queries_others ls)
queries_others (default d ∷ ls) = queries_others ls

pub changed_queries : (page : Page) (ts : List TrialLine) → queries_of (changed_page page ts).lines ≡ queries_of page.lines
changed_queries page ts = sym (queries_others (changed_page page ts).lines) ∙ ap queries_of (changed_others page ts) ∙ queries_others page.lines

changed_defaults : (page : Page) (ts : List TrialLine) (c : ℕ) → defaults (changed_page page ts).lines c ≡ defaults page.lines c
changed_defaults page ts c =
    sym (defaults_others (changed_page page ts).lines c)
    ∙ ap (λ (ls : List Line). defaults ls c) (changed_others page ts)
    ∙ defaults_others page.lines c

pub changed_default : (page : Page) (ts : List TrialLine) (c : ℕ) → unknown_by_default (changed_page page ts) c ≡ unknown_by_default page c
unfolding unknown_by_default
changed_default page ts c = ap (λ (k : ℕ). leb 1 k) (changed_defaults page ts c)

-- what is given is in range
abbrev Given : ℕ → Option Interval → Type 0
Given top none = Unit {0}
Given top (some p) = (p.low ≤ p.high) × (p.high ≤ top)

given : (top n : ℕ) (ts : List TrialLine) → AllTried top n ts → (c : ℕ) → Given top (tried ts c)
unfolding tried
given top n [] w c = tt
given top n (t ∷ ts) w c = go (tried ts c) (eqb t.condition c) (given top n ts w.1 c)
  where
    go : (o : Option Interval) (b : Bool) → Given top o → Given top (or_else o (cond b (some (record { low = t.low; high = t.high })) none))
    go (some p) b g = g
    go none true g = (w.0.1, w.0.2)
    go none false g = tt

-- The changed page is proper.
range_append : (top n : ℕ) (xs ys : List Line) → AllInRange top n xs → AllInRange top n ys → AllInRange top n (xs ++ ys)
range_append top n [] ys h k = k
range_append top n (x ∷ xs) ys h k = (h.0, range_append top n xs ys h.1 k)

kept_if_ranged : (top n : ℕ) (o : Option Interval) (l : Line) → InRange top n l → AllInRange top n (kept_if o l)
kept_if_ranged top n none l h = (h, tt)
kept_if_ranged top n (some p) l h = tt

kept_ranged : (top n : ℕ) (ts : List TrialLine) (ls : List Line) → AllInRange top n ls → AllInRange top n (kept_lines ts ls)
unfolding kept_lines
kept_ranged top n ts [] h = tt
kept_ranged top n ts (fact c x y ∷ ls) h =
    range_append top n (kept_if (tried ts c) (fact c x y)) (kept_lines ts ls) (kept_if_ranged top n (tried ts c) (fact c x y) h.0) (kept_ranged top n ts ls h.1)
kept_ranged top n ts (rule c v op lits ∷ ls) h = (h.0, kept_ranged top n ts ls h.1)
kept_ranged top n ts (query r c ∷ ls) h = (h.0, kept_ranged top n ts ls h.1)
kept_ranged top n ts (default c ∷ ls) h = (h.0, kept_ranged top n ts ls h.1)

fact_ranged : (top n c : ℕ) → c < n → (o : Option Interval) → Given top o → AllInRange top n (fact_if c o)
fact_ranged top n c l none g = tt
fact_ranged top n c l (some p) g = ((l, g.0, g.1), tt)

facts_ranged : (top n : ℕ) (ts : List TrialLine) → AllTried top n ts → (k c : ℕ) → c + k ≤ n → AllInRange top n (tried_facts ts k c)
unfolding tried_facts
facts_ranged top n ts w zero c l = tt
facts_ranged top n ts w (suc k) c l =
    range_append top n (fact_if c (tried ts c)) (tried_facts ts k (suc c)) (fact_ranged top n c (omega arith) (tried ts c) (given top n ts w c)) (facts_ranged top n ts w k (suc c) (omega arith))

pub changed_proper : (page : Page) → Proper page → (ts : List TrialLine) → AllTried page.top page.conditions ts → Proper (changed_page page ts)
unfolding changed_page
changed_proper page w ts h =
    let top = page.top in
    let n = page.conditions in
    record {
      top_least = w.top_least;
      top_most = w.top_most;
      conditions_least = w.conditions_least;
      conditions_most = w.conditions_most;
      ranged = range_append top n (kept_lines ts page.lines) (tried_facts ts n 0) (kept_ranged top n ts page.lines w.ranged) (facts_ranged top n ts h n 0 (omega arith));
      single = λ c. omega (arith, changed_defaults page ts c, w.single c);
    }

-- Its length.
kept_few : (ts : List TrialLine) (ls : List Line) → length (kept_lines ts ls) ≤ length ls
unfolding kept_lines
kept_few ts [] = omega arith
kept_few ts (fact c x y ∷ ls) = go (tried ts c) (kept_few ts ls)
  where
    go : (o : Option Interval) → length (kept_lines ts ls) ≤ length ls → length (kept_if o (fact c x y) ++ kept_lines ts ls) ≤ suc (length ls)
    go none h = omega (arith, h)
    go (some p) h = omega (arith, h)
kept_few ts (rule c v op lits ∷ ls) = omega (arith, kept_few ts ls)
kept_few ts (query r c ∷ ls) = omega (arith, kept_few ts ls)
kept_few ts (default c ∷ ls) = omega (arith, kept_few ts ls)

facts_few : (ts : List TrialLine) (k c : ℕ) → length (tried_facts ts k c) ≤ k
unfolding tried_facts
facts_few ts zero c = omega arith
facts_few ts (suc k) c = go (tried ts c) (facts_few ts k (suc c))
  where
    go : (o : Option Interval) → length (tried_facts ts k (suc c)) ≤ k → length (fact_if c o ++ tried_facts ts k (suc c)) ≤ suc k
    go none h = omega (arith, h)
    go (some p) h = omega (arith, h)

pub changed_few : (page : Page) (ts : List TrialLine) → length (changed_page page ts).lines ≤ length page.lines + page.conditions
unfolding changed_page
changed_few page ts =
    let n = page.conditions in
    omega (arith, length-append (kept_lines ts page.lines) (tried_facts ts n 0), kept_few ts page.lines, facts_few ts n 0)

codes_append : (xs ys : List Line) → length (line_codes (xs ++ ys)) ≡ length (line_codes xs) + length (line_codes ys)
unfolding line_codes
codes_append [] ys = omega arith
codes_append (x ∷ xs) ys = omega (arith, length-append (line_code x) (line_codes (xs ++ ys)), length-append (line_code x) (line_codes xs), codes_append xs ys)

kept_used : (ts : List TrialLine) (ls : List Line) → length (line_codes (kept_lines ts ls)) ≤ length (line_codes ls)
unfolding kept_lines line_codes
kept_used ts [] = omega arith
kept_used ts (fact c x y ∷ ls) = go (tried ts c) (kept_used ts ls)
  where
    go : (o : Option Interval) → length (line_codes (kept_lines ts ls)) ≤ length (line_codes ls)
        → length (line_codes (kept_if o (fact c x y) ++ kept_lines ts ls)) ≤ suc (suc (suc (suc (length (line_codes ls)))))
    go none h = omega (arith, h)
    go (some p) h = omega (arith, h)
kept_used ts (rule c v op lits ∷ ls) =
    omega (
      arith,
      kept_used ts ls,
      length-append (line_code (rule c v op lits)) (line_codes (kept_lines ts ls)),
      length-append (line_code (rule c v op lits)) (line_codes ls),
    )
kept_used ts (query r c ∷ ls) =
    omega (arith, kept_used ts ls, length-append (line_code (query r c)) (line_codes (kept_lines ts ls)), length-append (line_code (query r c)) (line_codes ls))
kept_used ts (default c ∷ ls) = omega (arith, kept_used ts ls)

facts_used : (ts : List TrialLine) (k c : ℕ) → length (line_codes (tried_facts ts k c)) ≤ 4 * k
unfolding tried_facts line_codes
facts_used ts zero c = omega arith
facts_used ts (suc k) c = go (tried ts c) (facts_used ts k (suc c))
  where
    go : (o : Option Interval) → length (line_codes (tried_facts ts k (suc c))) ≤ 4 * k → length (line_codes (fact_if c o ++ tried_facts ts k (suc c))) ≤ 4 * suc k
    go none h = omega (arith, h)
    go (some p) h = omega (arith, h)

pub changed_used : (page : Page) (ts : List TrialLine) → length (line_codes (changed_page page ts).lines) ≤ length (line_codes page.lines) + 4 * page.conditions
unfolding changed_page
changed_used page ts =
    let n = page.conditions in
    omega (arith, codes_append (kept_lines ts page.lines) (tried_facts ts n 0), kept_used ts page.lines, facts_used ts n 0)

-- The F lines of a condition, in their order.
unfoldable pub facts_of : ℕ → List Line → List Line
facts_of c [] = []
facts_of c (fact d l h ∷ ls) = cond (eqb d c) (fact d l h ∷ facts_of c ls) (facts_of c ls)
facts_of c (rule d w op lits ∷ ls) = facts_of c ls
facts_of c (query r d ∷ ls) = facts_of c ls
facts_of c (default d ∷ ls) = facts_of c ls

facts_append : (c : ℕ) (xs ys : List Line) → facts_of c (xs ++ ys) ≡ facts_of c xs ++ facts_of c ys
unfolding facts_of
facts_append c [] ys = refl
facts_append c (fact d x y ∷ xs) ys = go (eqb d c) (facts_append c xs ys)
  where
    go : (t : Bool) → facts_of c (xs ++ ys) ≡ facts_of c xs ++ facts_of c ys
        → cond t (fact d x y ∷ facts_of c (xs ++ ys)) (facts_of c (xs ++ ys)) ≡ cond t (fact d x y ∷ facts_of c xs) (facts_of c xs) ++ facts_of c ys
    go true e = ap (λ (ls : List Line). fact d x y ∷ ls) e
    go false e = e
facts_append c (rule d v op lits ∷ xs) ys = facts_append c xs ys
facts_append c (query r d ∷ xs) ys = facts_append c xs ys
facts_append c (default d ∷ xs) ys = facts_append c xs ys

-- of those that are kept, none where the condition is named, and all where it is not
abbrev if_unnamed : Option Interval → List Line → List Line
if_unnamed none own = own
if_unnamed (some p) own = []

facts_kept : (ts : List TrialLine) (c : ℕ) (ls : List Line) → facts_of c (kept_lines ts ls) ≡ if_unnamed (tried ts c) (facts_of c ls)
unfolding kept_lines facts_of
facts_kept ts c [] = nothing (tried ts c)
  where
    nothing : (o : Option Interval) → [] ≡ if_unnamed o []
    nothing none = refl
    nothing (some p) = refl
facts_kept ts c (fact d x y ∷ ls) =
    elim (ℕ_discrete d c) [
      | yes e ↦ rw (eq-eqb d c e, ap (tried ts) e) (named e (tried ts c) (facts_kept ts c ls))
      | no e ↦ rw (ne_eqb d c e) (other e (tried ts d) (facts_kept ts c ls))
    ]
  where
    named : d ≡ c → (o : Option Interval) → facts_of c (kept_lines ts ls) ≡ if_unnamed o (facts_of c ls)
        → facts_of c (kept_if o (fact d x y) ++ kept_lines ts ls) ≡ if_unnamed o (fact d x y ∷ facts_of c ls)
    named e none h = rw (eq-eqb d c e) (ap (λ (ms : List Line). fact d x y ∷ ms) h)
    named e (some p) h = h

    other : (d ≡ c → ⊥) → (o : Option Interval) {ms : List Line} → facts_of c (kept_lines ts ls) ≡ ms → facts_of c (kept_if o (fact d x y) ++ kept_lines ts ls) ≡ ms
    other e none h = rw (ne_eqb d c e) h
    other e (some p) h = h
facts_kept ts c (rule d v op lits ∷ ls) = facts_kept ts c ls
facts_kept ts c (query r d ∷ ls) = facts_kept ts c ls
facts_kept ts c (default d ∷ ls) = facts_kept ts c ls

-- of those that are given for conditions from `from` on
facts_before : (ts : List TrialLine) (k from c : ℕ) → c < from → facts_of c (tried_facts ts k from) ≡ []
unfolding tried_facts facts_of
facts_before ts zero from c l = refl
facts_before ts (suc k) from c l = go (tried ts from) (facts_before ts k (suc from) c (omega arith))
  where
    go : (o : Option Interval) → facts_of c (tried_facts ts k (suc from)) ≡ [] → facts_of c (fact_if from o ++ tried_facts ts k (suc from)) ≡ []
    go none e = e
    go (some p) e = rw (ne_eqb from c (λ z. omega arith)) e

facts_given : (ts : List TrialLine) (k from c : ℕ) → from ≤ c → c < from + k → facts_of c (tried_facts ts k from) ≡ fact_if c (tried ts c)
unfolding tried_facts facts_of
facts_given ts zero from c l m = absurd (omega arith)
facts_given ts (suc k) from c l m =
    elim (ℕ_discrete from c) [
      | yes e ↦ rw (ap (tried ts) e) (here e (tried ts c) (facts_before ts k (suc from) c (omega arith)))
      | no e ↦ later e (tried ts from) (facts_given ts k (suc from) c (omega arith) (omega arith))
    ]
  where
    here : from ≡ c → (o : Option Interval) → facts_of c (tried_facts ts k (suc from)) ≡ [] → facts_of c (fact_if from o ++ tried_facts ts k (suc from)) ≡ fact_if c o
    here e none h = h
    here e (some p) h = rw (eq-eqb from c e) (ap₂ {C = List Line} (λ d ms. fact d p.low p.high ∷ ms) e h)

    later : (from ≡ c → ⊥) → (o : Option Interval) {ms : List Line} → facts_of c (tried_facts ts k (suc from)) ≡ ms → facts_of c (fact_if from o ++ tried_facts ts k (suc from)) ≡ ms
    later e none h = h
    later e (some p) h = rw (ne_eqb from c e) h

-- "the last such line is the one fact in place of all F lines of that condition"
abbrev pub facts_tried : ℕ → Option Interval → List Line → List Line
facts_tried c none own = own
facts_tried c (some p) own = fact c p.low p.high ∷ []

pub changed_facts : (page : Page) (ts : List TrialLine) (c : ℕ) → c < page.conditions
    → facts_of c (changed_page page ts).lines ≡ facts_tried c (tried ts c) (facts_of c page.lines)
unfolding changed_page
changed_facts page ts c l =
    let n = page.conditions in
    facts_append c (kept_lines ts page.lines) (tried_facts ts n 0)
    ∙ ap₂ {C = List Line} (λ xs ys. xs ++ ys) (facts_kept ts c page.lines) (facts_given ts n 0 c (omega arith) (omega (arith, l)))
    ∙ go (tried ts c)
  where
    go : (o : Option Interval) → if_unnamed o (facts_of c page.lines) ++ fact_if c o ≡ facts_tried c o (facts_of c page.lines)
    go none = append-nil (facts_of c page.lines)
    go (some p) = refl
