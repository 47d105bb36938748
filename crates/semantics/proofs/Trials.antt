-- The trials of a list, and what is printed for them: a trial is the lines of one number, the output is that of the trials one behind the other, and for
-- every two files there is one, and only one. Assumes nothing.
use mathlib.Core.Path.{◌≡◌, refl, sym, ◌∙◌, ap, ap₂}
use mathlib.Core.Bool.{Bool, true, false, cond}
use mathlib.Core.List.{List, [], ◌∷◌, ◌++◌, append_assoc}
use mathlib.Core.Option.{Option, none, some}
use Prim.Native.Nat.{ℕ, suc, ◌*◌, ◌≤◌, ◌<◌}
use native.Mathlib.Omega.{arith}
use lib.Dec.{eqb}
use lib.ListN.{length, length-append, length-map}
use native.Mathlib.Nat.{zero-mul, suc-mul, mul-le-mul}
use borrow.Author.Tests.{eq-eqb, ne_eqb}
use Rattle.fixpoint.specs.Interval.{Interval}
use Rattle.semantics.specs.Fields.{number_text, joined}
use Rattle.semantics.specs.Output.{Query, queries_of, Answers, AreAnswers, top_fields, answer_fields, end_fields, refusal_fields, printed}
use Rattle.semantics.specs.Page.{Reading, Line, fact, rule, query, default, Page}
use Rattle.semantics.specs.ReadPage.{Refusal, or_else, text_refusal, page_read}
use Rattle.semantics.specs.Trials.{TrialLine, list_refusal, list_read, Trial, in_front, trials_of, changed_page, trial_fields, trial_answers, list_answers, AreAnswered, list_output, TrialsPrintedAs, IsTrialsOutput}
use Rattle.semantics.proofs.FieldRanges.{else_none}
use Rattle.semantics.proofs.Outputs.{text_small, refusal_short, top_short, queries_most, printed_append, answers_exist, answers_one, answers_within, answer_short}
use Rattle.semantics.proofs.Proper.{AllInRange, Proper}
use Rattle.semantics.proofs.ReadProper.{accepted_proper, accepted_few}
use Rattle.semantics.proofs.TextNumbers.{number_short, number_seven}
use Rattle.semantics.proofs.TrialLists.{LineInRange, AllTried, AllSmall, accepted_tried, list_small}
use Rattle.semantics.proofs.TrialPages.{changed_proper}

-- The lines of one number that stand together are a trial.
abbrev pub AllOf : ℕ → List TrialLine → Type 0
AllOf k [] = Unit {0}
AllOf k (t ∷ ts) = (t.trial ≡ k) × AllOf k ts

-- no line, or a first line of another number
abbrev pub BeginsOther : ℕ → List TrialLine → Type 0
BeginsOther k [] = Unit {0}
BeginsOther k (t ∷ ts) = t.trial ≡ k → ⊥

abbrev Other : ℕ → List Trial → Type 0
Other k [] = Unit {0}
Other k (x ∷ xs) = x.number ≡ k → ⊥

-- a trial begins with its line's number
front_other : (k : ℕ) (t : TrialLine) → (t.trial ≡ k → ⊥) → (xs : List Trial) → Other k (in_front t xs)
front_other k t n [] = n
front_other k t n (x ∷ xs) = go (eqb t.trial x.number)
  where
    go : (b : Bool) → Other k (cond b (record { number = t.trial; lines = t ∷ x.lines } ∷ xs) (record { number = t.trial; lines = t ∷ [] } ∷ x ∷ xs))
    go true = n
    go false = n

trials_other : (k : ℕ) (us : List TrialLine) → BeginsOther k us → Other k (trials_of us)
unfolding trials_of
trials_other k [] n = tt
trials_other k (u ∷ us) n = front_other k u n (trials_of us)

abbrev trial : ℕ → List TrialLine → Trial
trial k ts = record { number = k; lines = ts }

front_alone : (k : ℕ) (t : TrialLine) → t.trial ≡ k → (xs : List Trial) → Other k xs → in_front t xs ≡ trial k (t ∷ []) ∷ xs
front_alone k t e [] n = ap (λ (j : ℕ). trial j (t ∷ []) ∷ []) e
front_alone k t e (x ∷ xs) n =
    rw (ne_eqb t.trial x.number (λ z. n (sym z ∙ e))) (ap (λ (j : ℕ). trial j (t ∷ []) ∷ x ∷ xs) e)

pub trials_split : (k : ℕ) (t : TrialLine) (ts us : List TrialLine) → AllOf k (t ∷ ts) → BeginsOther k us
    → trials_of ((t ∷ ts) ++ us) ≡ record { number = k; lines = t ∷ ts } ∷ trials_of us
unfolding trials_of
trials_split k t [] us a n = front_alone k t a.0 (trials_of us) (trials_other k us n)
trials_split k t (s ∷ ts) us a n =
    ap (in_front t) (trials_split k s ts us a.1 n)
    ∙ rw (eq-eqb t.trial k a.0) (ap (λ (j : ℕ). trial j (t ∷ s ∷ ts) ∷ trials_of us) a.0)

-- Lines behind lines: the first of them begins a trial where the last line before it is of another number.
abbrev pub Apart : List TrialLine → List TrialLine → Type 0
Apart [] us = Unit {0}
Apart (t ∷ []) us = BeginsOther t.trial us
Apart (t ∷ s ∷ ts) us = Apart (s ∷ ts) us

front_append : (t : TrialLine) (xs ys : List Trial) → 0 < length xs → in_front t (xs ++ ys) ≡ in_front t xs ++ ys
front_append t [] ys l = absurd (omega arith)
front_append t (x ∷ xs) ys l = go (eqb t.trial x.number)
  where
    go : (b : Bool)
        → cond b (trial t.trial (t ∷ x.lines) ∷ (xs ++ ys)) (trial t.trial (t ∷ []) ∷ x ∷ (xs ++ ys))
        ≡ cond b (trial t.trial (t ∷ x.lines) ∷ xs) (trial t.trial (t ∷ []) ∷ x ∷ xs) ++ ys
    go true = refl
    go false = refl

front_some : (t : TrialLine) (xs : List Trial) → 0 < length (in_front t xs)
front_some t [] = omega arith
front_some t (x ∷ xs) = go (eqb t.trial x.number)
  where
    go : (b : Bool) → 0 < length (cond b (trial t.trial (t ∷ x.lines) ∷ xs) (trial t.trial (t ∷ []) ∷ x ∷ xs))
    go true = omega arith
    go false = omega arith

pub trials_append : (ts us : List TrialLine) → Apart ts us → trials_of (ts ++ us) ≡ trials_of ts ++ trials_of us
unfolding trials_of
trials_append [] us a = refl
trials_append (t ∷ []) us a = front_alone t.trial t refl (trials_of us) (trials_other t.trial us a)
trials_append (t ∷ s ∷ ts) us a =
    ap (in_front t) (trials_append (s ∷ ts) us a) ∙ front_append t (trials_of (s ∷ ts)) (trials_of us) (front_some s (trials_of ts))

-- there are no more trials than lines
front_few : (t : TrialLine) (xs : List Trial) → length (in_front t xs) ≤ suc (length xs)
front_few t [] = omega arith
front_few t (x ∷ xs) = go (eqb t.trial x.number)
  where
    go : (b : Bool) → length (cond b (trial t.trial (t ∷ x.lines) ∷ xs) (trial t.trial (t ∷ []) ∷ x ∷ xs)) ≤ suc (suc (length xs))
    go true = omega arith
    go false = omega arith

pub trials_few : (ts : List TrialLine) → length (trials_of ts) ≤ length ts
unfolding trials_of
trials_few [] = omega arith
trials_few (t ∷ ts) = omega (arith, front_few t (trials_of ts), trials_few ts)

-- the lines of the trials are in range, and their numbers small
abbrev pub TrialsTried : ℕ → ℕ → List Trial → Type 0
TrialsTried top n [] = Unit {0}
TrialsTried top n (t ∷ ts) = AllTried top n t.lines × TrialsTried top n ts

front_tried : (top n : ℕ) (t : TrialLine) (xs : List Trial) → LineInRange top n t → TrialsTried top n xs → TrialsTried top n (in_front t xs)
front_tried top n t [] h w = ((h, tt), tt)
front_tried top n t (x ∷ xs) h w = go (eqb t.trial x.number)
  where
    go : (b : Bool) → TrialsTried top n (cond b (trial t.trial (t ∷ x.lines) ∷ xs) (trial t.trial (t ∷ []) ∷ x ∷ xs))
    go true = ((h, w.0), w.1)
    go false = ((h, tt), w)

pub trials_tried : (top n : ℕ) (ts : List TrialLine) → AllTried top n ts → TrialsTried top n (trials_of ts)
unfolding trials_of
trials_tried top n [] h = tt
trials_tried top n (t ∷ ts) h = front_tried top n t (trials_of ts) h.0 (trials_tried top n ts h.1)

abbrev pub TrialsSmall : List Trial → Type 0
TrialsSmall [] = Unit {0}
TrialsSmall (t ∷ ts) = (t.number < 1000) × TrialsSmall ts

front_small : (t : TrialLine) (xs : List Trial) → t.trial < 1000 → TrialsSmall xs → TrialsSmall (in_front t xs)
front_small t [] h w = (h, tt)
front_small t (x ∷ xs) h w = go (eqb t.trial x.number)
  where
    go : (b : Bool) → TrialsSmall (cond b (trial t.trial (t ∷ x.lines) ∷ xs) (trial t.trial (t ∷ []) ∷ x ∷ xs))
    go true = (h, w.1)
    go false = (h, w)

pub trials_small : (ts : List TrialLine) → AllSmall ts → TrialsSmall (trials_of ts)
unfolding trials_of
trials_small [] h = tt
trials_small (t ∷ ts) h = front_small t (trials_of ts) h.0.0 (trials_small ts h.1)

-- What is printed for a trial, and for trials one behind the other.
abbrev pub trial_output : ℕ → Answers → List Query → List ℕ
trial_output number A qs = printed (trial_answers number A qs)

unfoldable pub trial_outputs : List Trial → List Answers → List Query → List ℕ
trial_outputs [] As qs = []
trial_outputs (t ∷ ts) [] qs = []
trial_outputs (t ∷ ts) (A ∷ As) qs = trial_output t.number A qs ++ trial_outputs ts As qs

answers_printed : (ts : List Trial) (As : List Answers) (qs : List Query) → printed (list_answers ts As qs) ≡ trial_outputs ts As qs
unfolding list_answers trial_outputs
answers_printed [] As qs = refl
answers_printed (t ∷ ts) [] qs = refl
answers_printed (t ∷ ts) (A ∷ As) qs =
    printed_append (trial_answers t.number A qs) (list_answers ts As qs)
    ∙ ap (λ (s : List ℕ). trial_output t.number A qs ++ s) (answers_printed ts As qs)

pub list_output_lem : (page : Page) (ts : List Trial) (As : List Answers)
    → list_output page ts As
    ≡ printed (top_fields page.top ∷ [])
    ++ (trial_outputs ts As (queries_of page.lines) ++ printed (end_fields (length ts * length (queries_of page.lines)) ∷ []))
unfolding list_output
list_output_lem page ts As =
    let qs = queries_of page.lines in
    let top = top_fields page.top in
    let end = end_fields (length ts * length qs) ∷ [] in
    printed_append (top ∷ []) (list_answers ts As qs ++ end)
    ∙ ap (λ (s : List ℕ). printed (top ∷ []) ++ s) (printed_append (list_answers ts As qs) end)
    ∙ ap (λ (s : List ℕ). printed (top ∷ []) ++ (s ++ printed end)) (answers_printed ts As qs)

-- "the count of answers" is that of the lines printed for the trials
pub answers_counted : (page : Page) (ts : List Trial) (As : List Answers) → AreAnswered page ts As → (qs : List Query)
    → length (list_answers ts As qs) ≡ length ts * length qs
unfolding list_answers
answers_counted page [] [] a qs = sym (zero-mul (length qs))
answers_counted page [] (A ∷ As) a qs = absurd a
answers_counted page (t ∷ ts) [] a qs = absurd a
answers_counted page (t ∷ ts) (A ∷ As) a qs =
    omega (
      arith,
      length-append (trial_answers t.number A qs) (list_answers ts As qs),
      length-map qs (λ q. trial_fields t.number q (A q.reading q.condition)),
      answers_counted page ts As a.1 qs,
      suc-mul (length ts) (length qs),
    )

-- trials behind trials
pub outputs_append : (ts us : List Trial) (As Bs : List Answers) (qs : List Query) → length ts ≡ length As
    → trial_outputs (ts ++ us) (As ++ Bs) qs ≡ trial_outputs ts As qs ++ trial_outputs us Bs qs
unfolding trial_outputs
outputs_append [] us [] Bs qs e = refl
outputs_append [] us (A ∷ As) Bs qs e = absurd (omega arith)
outputs_append (t ∷ ts) us [] Bs qs e = absurd (omega arith)
outputs_append (t ∷ ts) us (A ∷ As) Bs qs e =
    ap (λ (s : List ℕ). trial_output t.number A qs ++ s) (outputs_append ts us As Bs qs (omega arith))
    ∙ sym (append_assoc (trial_output t.number A qs) (trial_outputs ts As qs) (trial_outputs us Bs qs))

pub answered_append : (page : Page) (ts us : List Trial) (As Bs : List Answers) → AreAnswered page ts As → AreAnswered page us Bs
    → AreAnswered page (ts ++ us) (As ++ Bs)
answered_append page [] us [] Bs a b = b
answered_append page [] us (A ∷ As) Bs a b = absurd a
answered_append page (t ∷ ts) us [] Bs a b = absurd a
answered_append page (t ∷ ts) us (A ∷ As) Bs a b = (a.0, answered_append page ts us As Bs a.1 b)

pub answered_length : (page : Page) (ts : List Trial) (As : List Answers) → AreAnswered page ts As → length ts ≡ length As
answered_length page [] [] a = refl
answered_length page [] (A ∷ As) a = absurd a
answered_length page (t ∷ ts) [] a = absurd a
answered_length page (t ∷ ts) (A ∷ As) a = ap suc (answered_length page ts As a.1)

-- What is printed depends only on the answers for the conditions of the page.
abbrev pub Agree : ℕ → Answers → Answers → Type 0
Agree n A B = (r : Reading) (c : ℕ) → c < n → A r c ≡ B r c

abbrev pub AllAgree : ℕ → List Answers → List Answers → Type 0
AllAgree n [] [] = Unit {0}
AllAgree n [] (B ∷ Bs) = ⊥
AllAgree n (A ∷ As) [] = ⊥
AllAgree n (A ∷ As) (B ∷ Bs) = Agree n A B × AllAgree n As Bs

agree_lines : (top n number : ℕ) (A B : Answers) → Agree n A B → (ls : List Line) → AllInRange top n ls
    → trial_answers number A (queries_of ls) ≡ trial_answers number B (queries_of ls)
unfolding queries_of
agree_lines top n number A B g [] r = refl
agree_lines top n number A B g (fact c x y ∷ ls) r = agree_lines top n number A B g ls r.1
agree_lines top n number A B g (rule c v op lits ∷ ls) r = agree_lines top n number A B g ls r.1
agree_lines top n number A B g (query d c ∷ ls) r =
    ap₂ {C = List (List (List ℕ))} (λ (p : Interval) (more : List (List (List ℕ))). trial_fields number (record { reading = d; condition = c }) p ∷ more)
    (g d c r.0) (agree_lines top n number A B g ls r.1)
agree_lines top n number A B g (default c ∷ ls) r = agree_lines top n number A B g ls r.1

module _ (page : Page) (w : Proper page) where
  pub agree_trial : (number : ℕ) (A B : Answers) → Agree page.conditions A B
      → trial_answers number A (queries_of page.lines) ≡ trial_answers number B (queries_of page.lines)
  agree_trial number A B g = agree_lines page.top page.conditions number A B g page.lines w.ranged

  agree_answers : (ts : List Trial) (As Bs : List Answers) → AllAgree page.conditions As Bs
      → list_answers ts As (queries_of page.lines) ≡ list_answers ts Bs (queries_of page.lines)
  unfolding list_answers
  agree_answers [] As Bs g = refl
  agree_answers (t ∷ ts) [] [] g = refl
  agree_answers (t ∷ ts) [] (B ∷ Bs) g = absurd g
  agree_answers (t ∷ ts) (A ∷ As) [] g = absurd g
  agree_answers (t ∷ ts) (A ∷ As) (B ∷ Bs) g =
      ap₂ {C = List (List (List ℕ))} (λ xs ys. xs ++ ys) (agree_trial t.number A B g.0) (agree_answers ts As Bs g.1)

  pub agree_output : (ts : List Trial) (As Bs : List Answers) → AllAgree page.conditions As Bs → list_output page ts As ≡ list_output page ts Bs
  unfolding list_output
  agree_output ts As Bs g =
      ap (λ (ls : List (List (List ℕ))). printed ((top_fields page.top ∷ ls) ++ (end_fields (length ts * length (queries_of page.lines)) ∷ [])))
      (agree_answers ts As Bs g)

  -- There are answers, and any two agree.
  pub answered_exist : (ts : List Trial) → TrialsTried page.top page.conditions ts → (As : List Answers) × AreAnswered page ts As
  answered_exist [] h = ([], tt)
  answered_exist (t ∷ ts) h =
      let x = answers_exist (changed_page page t.lines) (changed_proper page w t.lines h.0) in
      let y = answered_exist ts h.1 in
      (x.0 ∷ y.0, (x.1, y.1))

  pub trial_agree : (ts : List TrialLine) → AllTried page.top page.conditions ts → {A B : Answers}
      → AreAnswers (changed_page page ts) A → AreAnswers (changed_page page ts) B → Agree page.conditions A B
  unfolding changed_page
  trial_agree ts h {A} {B} a b r c l = answers_one (changed_page page ts) (changed_proper page w ts h) a b r c l

  pub answered_agree : (ts : List Trial) → TrialsTried page.top page.conditions ts → (As Bs : List Answers) → AreAnswered page ts As → AreAnswered page ts Bs
      → AllAgree page.conditions As Bs
  answered_agree [] h [] [] a b = tt
  answered_agree [] h [] (B ∷ Bs) a b = absurd b
  answered_agree [] h (A ∷ As) Bs a b = absurd a
  answered_agree (t ∷ ts) h [] Bs a b = absurd a
  answered_agree (t ∷ ts) h (A ∷ As) [] a b = absurd b
  answered_agree (t ∷ ts) h (A ∷ As) (B ∷ Bs) a b = (trial_agree t.lines h.0 a.0 b.0, answered_agree ts h.1 As Bs a.1 b.1)

-- what an accepted list's trials are
pub accepted_trials : (text list : List ℕ) → list_refusal (page_read text) list ≡ none
    → TrialsTried (page_read text).top (page_read text).conditions (trials_of (list_read list))
accepted_trials text list e =
    let page = page_read text in
    trials_tried page.top page.conditions (list_read list) (accepted_tried page list e).tried

-- there is an output for every two files
pub trials_exists : (text list : List ℕ) → (output : List ℕ) × IsTrialsOutput text list output
unfolding IsTrialsOutput
trials_exists text list = go (or_else (text_refusal text) (list_refusal (page_read text) list)) refl
  where
    go : (o : Option Refusal) → or_else (text_refusal text) (list_refusal (page_read text) list) ≡ o → (output : List ℕ) × TrialsPrintedAs o (page_read text) (trials_of (list_read list)) output
    go (some r) e = (printed (refusal_fields r.number r.line ∷ []), refl)
    go none e =
        let h = else_none (text_refusal text) (list_refusal (page_read text) list) e in
        let x = answered_exist (page_read text) (accepted_proper text h.0) (trials_of (list_read list)) (accepted_trials text list h.1) in
        (list_output (page_read text) (trials_of (list_read list)) x.0, record { answers = x.0; are = x.1; is = refl })

-- and only one
pub trials_one : (text list x y : List ℕ) → IsTrialsOutput text list x → IsTrialsOutput text list y → x ≡ y
unfolding IsTrialsOutput
trials_one text list x y p q = go (or_else (text_refusal text) (list_refusal (page_read text) list)) refl p q
  where
    go : (o : Option Refusal) → or_else (text_refusal text) (list_refusal (page_read text) list) ≡ o
        → TrialsPrintedAs o (page_read text) (trials_of (list_read list)) x → TrialsPrintedAs o (page_read text) (trials_of (list_read list)) y → x ≡ y
    go (some r) e p q = p ∙ sym q
    go none e p q =
        let h = else_none (text_refusal text) (list_refusal (page_read text) list) e in
        let w = accepted_proper text h.0 in
        let ts = trials_of (list_read list) in
        p.is
        ∙ agree_output (page_read text) w ts p.answers q.answers (answered_agree (page_read text) w ts (accepted_trials text list h.1) p.answers q.answers p.are q.are)
        ∙ sym q.is

-- The length of a trial's output.
trial_line_short : (number : ℕ) → number < 1000 → (q : Query) (p : Interval) → q.condition < 1000 → p.low < 1000 → p.high < 1000
    → length (printed (trial_fields number q p ∷ [])) ≤ 18
trial_line_short number n q p h k l =
    omega (
      arith,
      number_short number n,
      length-append (number_text number) (44 ∷ joined (answer_fields q p)),
      length-append (joined (trial_fields number q p)) (10 ∷ []),
      length-append (joined (answer_fields q p)) (10 ∷ []),
      answer_short q p h k l,
    )

module _ (page : Page) (w : Proper page) (number : ℕ) (small : number < 1000) (ts : List TrialLine) (h : AllTried page.top page.conditions ts)
    {A : Answers} (a : AreAnswers (changed_page page ts) A) where
  lines_short : (ls : List Line) → AllInRange page.top page.conditions ls → length (trial_output number A (queries_of ls)) ≤ 18 * length (queries_of ls)
  unfolding queries_of changed_page
  lines_short [] r = omega arith
  lines_short (fact c x y ∷ ls) r = lines_short ls r.1
  lines_short (rule c v op lits ∷ ls) r = lines_short ls r.1
  lines_short (query d c ∷ ls) r =
      let q : Query = record { reading = d; condition = c } in
      let i = answers_within (changed_page page ts) (changed_proper page w ts h) a d c r.0 in
      let x = trial_fields number q (A d c) in
      omega (
        arith,
        ap length (printed_append (x ∷ []) (trial_answers number A (queries_of ls))),
        length-append (printed (x ∷ [])) (trial_output number A (queries_of ls)),
        trial_line_short number small q (A d c) (omega (arith, r.0, w.conditions_most)) (omega (arith, i.low_in, w.top_most)) (omega (arith, i.high_in, w.top_most)),
        lines_short ls r.1,
      )
  lines_short (default c ∷ ls) r = lines_short ls r.1

  pub trial_short : length (trial_output number A (queries_of page.lines)) ≤ 18 * length (queries_of page.lines)
  trial_short = lines_short page.lines w.ranged

-- The lines before and behind the trials are at most 8 and 12 bytes long: there are at most 1,024 × 1,024 answers.
pub count_short : (count : ℕ) → count < 10000000 → length (printed (end_fields count ∷ [])) ≤ 12
count_short count h =
    omega (arith, length-append (number_text count) [], number_seven count h, length-append (joined (end_fields count)) (10 ∷ []))

pub outputs_short : (page : Page) → Proper page → (ts : List Trial) → TrialsTried page.top page.conditions ts → TrialsSmall ts → (As : List Answers) → AreAnswered page ts As
    → length (trial_outputs ts As (queries_of page.lines)) ≤ 18 * (length ts * length (queries_of page.lines))
unfolding trial_outputs
outputs_short page w [] h s [] a = omega arith
outputs_short page w [] h s (A ∷ As) a = absurd a
outputs_short page w (t ∷ ts) h s [] a = absurd a
outputs_short page w (t ∷ ts) h s (A ∷ As) a =
    let qs = queries_of page.lines in
    omega (
      arith,
      length-append (trial_output t.number A qs) (trial_outputs ts As qs),
      trial_short page w t.number s.0 t.lines h.0 a.0,
      outputs_short page w ts h.1 s.1 As a.1,
      suc-mul (length ts) (length qs),
    )

-- There are at most 1,048,576 answers, and the output has at most 18,874,388 bytes.
pub answers_most : (text list : List ℕ) → text_refusal text ≡ none → list_refusal (page_read text) list ≡ none
    → length (trials_of (list_read list)) * length (queries_of (page_read text).lines) ≤ 1048576
answers_most text list e f =
    mul-le-mul
    {n₁ = length (trials_of (list_read list))}
    {m₁ = length (queries_of (page_read text).lines)}
    {n₂ = 1024}
    {m₂ = 1024}
    (omega (arith, trials_few (list_read list), (accepted_tried (page_read text) list f).few))
    (omega (arith, queries_most (page_read text).lines, accepted_few text e))

pub trials_output_short : (text list output : List ℕ) → IsTrialsOutput text list output → length output ≤ 18874388
unfolding IsTrialsOutput
trials_output_short text list output p = go (text_refusal text) (list_refusal (page_read text) list) refl refl p
  where
    go : (o q : Option Refusal) → text_refusal text ≡ o → list_refusal (page_read text) list ≡ q
        → TrialsPrintedAs (or_else o q) (page_read text) (trials_of (list_read list)) output → length output ≤ 18874388
    go (some r) q e f p =
        let s = text_small text r e in
        omega (arith, ap length p, refusal_short r.number r.line (omega (arith, s.number_most)) (omega (arith, s.line_most)))
    go none (some r) e f p =
        let s = list_small (page_read text) list r f in
        omega (arith, ap length p, refusal_short r.number r.line (omega (arith, s.number_most)) (omega (arith, s.line_most)))
    go none none e f p =
        let page = page_read text in
        let w = accepted_proper text e in
        let ts = trials_of (list_read list) in
        let qs = queries_of page.lines in
        let end = printed (end_fields (length ts * length qs) ∷ []) in
        let outputs = trial_outputs ts p.answers qs in
        let m = answers_most text list e f in
        omega (
          arith,
          m,
          ap length (p.is ∙ list_output_lem page ts p.answers),
          length-append (printed (top_fields page.top ∷ [])) (outputs ++ end),
          length-append outputs end,
          top_short page.top (omega (arith, w.top_most)),
          outputs_short page w ts (accepted_trials text list f) (trials_small (list_read list) (accepted_tried page list f).small) p.answers p.are,
          count_short (length ts * length qs) (omega (arith, m)),
        )
