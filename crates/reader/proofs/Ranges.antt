-- The ranges of a line, and its refusal. Assumes nothing.
use Rattle.std.proofs.Common.{Option as Maybe, Some, Result, Ok, Err}
use Rattle.std.specs.Prelude.{IfSome}
use Rattle.std.proofs.lemmas.Option.{IfSome_then}
use mathlib.Core.Path.{◌≡◌, refl, sym, ◌∙◌, ap}
use mathlib.Core.Bool.{Bool, true, false, not, cond, ◌||◌, or-true, or-false}
use mathlib.Core.List.{List, [], ◌∷◌}
use mathlib.Core.Option.{Option, none, some}
use Prim.Native.Nat.{ℕ, suc, ◌+◌, ◌≤◌}
use native.Mathlib.Omega.{arith}
use lib.Dec.{eqb, leb, ltb}
use lib.ListN.{length, drop, length-map}
use borrow.Author.Tests.{eq-eqb, ne_eqb, eqb-true, eqb-false, le-leb, lt-leb, leb-false, ltb-true, ltb-false}
use Rattle.fixpoint.specs.Sum.{bit}
use Rattle.semantics.specs.Grade.{Op}
use Rattle.semantics.specs.Page.{Literal, condition_of, Line, fact, rule, default, defaults}
use Rattle.semantics.specs.Area.{code_of, line_code}
use Rattle.semantics.specs.Call.{cause, first_of}
use Rattle.semantics.specs.Text.{has_form}
use Rattle.semantics.specs.ReadPage.{Fault, head_ranges, placed, or_else, outside, condition_range, literal_ranges, line_ranges, leftmost, repeat_causes, line_fault}
use Rattle.semantics.proofs.FieldRanges.{some_none}
use Rattle.fields.specs.Cursor.{fields_at}
use Rattle.lines.specs.Lines.{far_in, Says, RuleSays, QuerySays}
use Rattle.bits.specs.Words.{has, Inserted}
use Rattle.reader.specs.declared.check.Fault.{Fault as Answer}
use Rattle.reader.specs.declared.check.Entry.{Entry}
use Rattle.reader.specs.Checks.{fault_of, literal_fault, rule_fault, query_fault, default_fault, DefaultAs, Seen, fault_in, LineAs, CheckedLine}
use Rattle.lines.proofs.Forms.{query_size, form_size}

-- the leftmost literal of a rule that is out of range, from the place j on, is the first that is
literals_told : (n k j : ℕ) → j ≡ 4 + suc k → (lits : List Literal)
    → leftmost j (literal_ranges n lits) ≡ literal_fault (far_in n k lits)
unfolding far_in leftmost
literals_told n k j d [] = refl
literals_told n k j d (l ∷ lits) = go (literals_told n (suc k) (suc j) (omega arith) lits) (ltb (condition_of l) n) refl
  where
    go : leftmost (suc j) (literal_ranges n lits) ≡ literal_fault (far_in n (suc k) lits)
        → (t : Bool) → ltb (condition_of l) n ≡ t
        → or_else (placed j (first_of (condition_range n (condition_of l)))) (leftmost (suc j) (literal_ranges n lits))
        ≡ literal_fault (cond t (far_in n (suc k) lits) (Some (suc k)))
    go h true e = rw (lt-leb n (condition_of l) (ltb-true (condition_of l) n e)) h
    go h false e = rw (le-leb n (condition_of l) (ltb-false (condition_of l) n e), d)

far_most : (n k : ℕ) (lits : List Literal) → IfSome (far_in n k lits) (λ x. x ≤ k + length lits)
unfolding far_in
far_most n k [] = tt
far_most n k (l ∷ lits) = go (IfSome_then (far_in n (suc k) lits) (far_most n (suc k) lits) (λ x p. omega arith)) (ltb (condition_of l) n)
  where
    go : IfSome (far_in n (suc k) lits) (λ x. x ≤ k + suc (length lits)) → (t : Bool) → IfSome (cond t (far_in n (suc k) lits) (Some (suc k))) (λ x. x ≤ k + suc (length lits))
    go h true = h
    go h false = omega arith

rule_range : (top n c w : ℕ) (far : Maybe ℕ) (op : Op) (lits : List Literal) → far ≡ far_in n 0 lits → rule_fault top n c w far ≡ leftmost 1 (line_ranges top n (rule c w op lits))
unfolding leftmost
rule_range top n c w far op lits e = rw (literals_told n 0 5 refl lits, e) (go (leb n c) (outside 1 top w) (literal_fault (far_in n 0 lits)))
  where
    go : (t u : Bool) (o : Option Fault)
        → or_else (leftmost 1 ([] ∷ (cause t 4 ∷ []) ∷ (cause u 21 ∷ []) ∷ [])) o ≡ or_else (placed 2 (first_of (cause t 4 ∷ []))) (or_else (placed 3 (first_of (cause u 21 ∷ []))) o)
    go true u o = refl
    go false true o = refl
    go false false o = refl

-- a line of no form
pub formless : (s : List ℕ) (at : ℕ) → has_form (fields_at (drop at s)) ≡ false → (top n : ℕ) (before : List Line)
    → fault_in top n before (fields_at (drop at s)) ≡ some (record { number = 3; place = 0 })
unfolding line_fault
formless s at f top n before = rw f

pub else_nothing : {A : Type 0} (o : Option A) → or_else o none ≡ o
else_nothing none = refl
else_nothing (some r) = refl

-- the longest entry has 12 numbers
entry_few : (s : List ℕ) (at : ℕ) {l : Line} {next : ℕ} → Says s at l next → length (line_code l) ≤ 12
entry_few s at h = omega (arith, form_size (fields_at (drop at s)) h.form, ap (λ (l : Line). length (line_code l)) h.is)

-- The set with the condition of a D line.
pub seen_more : (before : List Line) (c : ℕ) {words words' : List ℕ} → Seen before words → Inserted c words words' → Seen (default c ∷ before) words'
unfolding defaults
seen_more before c {words} {words'} w i = record { size = i.0; are = λ k l. i.1 k l ∙ rw (w.are k l) (go k (eqb k c) refl) }
  where
    go : (k : ℕ) (t : Bool) → eqb k c ≡ t → (leb 1 (defaults before k) || t) ≡ leb 1 (bit (eqb c k) + defaults before k)
    go k true e = let z : k ≡ c = eqb-true k c e in rw (or-true, eq-eqb c k (sym z), le-leb 1 (1 + defaults before k) (omega arith))
    go k false e = let z : k ≡ c → ⊥ = eqb-false k c e in let d : 0 + defaults before k ≡ defaults before k = omega arith in rw (or-false, ne_eqb c k (λ y. z (sym y)), d)

-- what a line comes to, by what its fields do
abbrev pub entry_by : {A : Type 0} → Result A Answer → ℕ → ℕ → Result Entry Answer
entry_by (Ok a) next size = Ok (record { size = size; next = next })
entry_by (Err f) next size = Err f

-- a fault that is the first of two, and one behind none
pub else_some : {A : Type 0} {x : A} {o : Option A} (p : Option A) → some x ≡ o → some x ≡ or_else o p
else_some p e = rw (sym e)

pub else_none : {A : Type 0} {x o p : Option A} → none ≡ o → x ≡ p → x ≡ or_else o p
else_none e h = rw (sym e) h

-- the faults of a fact, one after the other: two tests may refuse its last field
pub fact_faults : (c l h top n : ℕ) → or_else (placed 2 (first_of (cause (leb n c) 4 ∷ []))) (or_else (placed 3 (first_of (cause (ltb top l) 22 ∷ []))) (or_else (placed 4 (first_of (cause (ltb top h) 22 ∷ []))) (placed 4 (first_of (cause (ltb h l) 23 ∷ [])))))
    ≡ leftmost 1 (line_ranges top n (fact c l h))
unfolding leftmost
fact_faults c l h top n = go (leb n c) (ltb top l) (ltb top h) (ltb h l)
  where
    go : (t u v w : Bool) → or_else (placed 2 (first_of (cause t 4 ∷ []))) (or_else (placed 3 (first_of (cause u 22 ∷ []))) (or_else (placed 4 (first_of (cause v 22 ∷ []))) (placed 4 (first_of (cause w 23 ∷ [])))))
        ≡ or_else (placed 2 (first_of (cause t 4 ∷ []))) (or_else (placed 3 (first_of (cause u 22 ∷ []))) (or_else (placed 4 (first_of (cause v 22 ∷ cause w 23 ∷ []))) none))
    go true u v w = refl
    go false true v w = refl
    go false false true w = refl
    go false false false true = refl
    go false false false false = refl

-- and those of the first line, and of a rule
pub head_faults : (top n : ℕ) → or_else (placed 2 (first_of (cause (outside 1 200 top) 4 ∷ []))) (placed 3 (first_of (cause (outside 1 512 n) 4 ∷ []))) ≡ leftmost 1 (head_ranges top n)
unfolding leftmost
head_faults top n = ap (or_else (placed 2 (first_of (cause (outside 1 200 top) 4 ∷ [])))) (sym (else_nothing (placed 3 (first_of (cause (outside 1 512 n) 4 ∷ [])))))

pub rule_faults : (c w : ℕ) (far : Maybe ℕ) (top n : ℕ) → or_else (placed 2 (first_of (cause (leb n c) 4 ∷ []))) (or_else (placed 3 (first_of (cause (outside 1 top w) 21 ∷ []))) (literal_fault far))
    ≡ rule_fault top n c w far
unfolding leftmost
rule_faults c w far top n = go (leb n c) (outside 1 top w) (literal_fault far)
  where
    go : (t u : Bool) (o : Option Fault) → or_else (placed 2 (first_of (cause t 4 ∷ []))) (or_else (placed 3 (first_of (cause u 21 ∷ []))) o)
        ≡ or_else (or_else (placed 2 (first_of (cause t 4 ∷ []))) (or_else (placed 3 (first_of (cause u 21 ∷ []))) none)) o
    go true u o = refl
    go false true o = refl
    go false false o = refl

-- The fields of a D line, and whether it is a second one.
module _ (n c : ℕ) where
  default_faults : (t : Bool) → or_else (placed 2 (first_of (cause (leb n c) 4 ∷ []))) (placed 0 (first_of (cause t 24 ∷ []))) ≡ default_fault n c t
  unfolding leftmost
  default_faults t = ap (λ (o : Option Fault). or_else o (placed 0 (first_of (cause t 24 ∷ [])))) (sym (else_nothing (placed 2 (first_of (cause (leb n c) 4 ∷ [])))))

  pub default_far : (words words' : List ℕ) {f : Answer} → fault_of {A = Unit {0}} (Err f) ≡ placed 2 (first_of (cause (leb n c) 4 ∷ [])) → DefaultAs n c words words' (Err f)
  default_far words words' e = record { told = else_some _ e ∙ default_faults (has words c); inserted = λ z. some_none z }

  -- a condition in range, by what the set says of it
  pub default_near : {words words' : List ℕ} {r : Result (Unit {0}) Answer} → none ≡ placed 2 (first_of (cause (leb n c) 4 ∷ [])) → {new : Bool} → Inserted c words words' → new ≡ not (has words c)
      → fault_of r ≡ placed 0 (first_of (cause (not new) 24 ∷ [])) → DefaultAs n c words words' r
  default_near {words} {words'} m i w e = record { told = else_none m (e ∙ again (has words c) w) ∙ default_faults (has words c); inserted = λ z. i }
    where
      again : (t : Bool) → {new : Bool} → new ≡ not t → placed 0 (first_of (cause (not new) 24 ∷ [])) ≡ placed 0 (first_of (cause t 24 ∷ []))
      again true e = rw e
      again false e = rw e

-- A line that has a form, by what its fields come to.
module _ (s : List ℕ) (at top n : ℕ) where
  -- the fault of a line that says l, whose ranges and D lines come to f
  module _ {l : Line} {next : ℕ} (h : Says s at l next) {size : ℕ} (z : size ≡ length (line_code l)) (before : List Line) where
    here : fault_in top n before (fields_at (drop at s)) ≡ or_else (leftmost 1 (line_ranges top n l)) (placed 0 (first_of (repeat_causes before l)))
    unfolding line_fault
    here = rw (h.form, h.is)

    told : (words : List ℕ) (r : Result (Unit {0}) Answer) → fault_of r ≡ or_else (leftmost 1 (line_ranges top n l)) (placed 0 (first_of (repeat_causes before l))) → (fault_of r ≡ none → Seen (l ∷ before) words)
        → LineAs s at top n before words (entry_by r next size)
    told words (Ok x) d v =
        record {
          good = here ∙ sym d;
          seen = rw h.is (v refl);
          entry = z ∙ ap (λ (y : Line). length (line_code y)) (sym h.is);
          few = omega (arith, entry_few s at h);
          ends = h.ends;
        }
    told words (Err f) d v = here ∙ sym d

  ranged : {l : Line} {next : ℕ} → Says s at l next → {size : ℕ} → size ≡ length (line_code l) → (words : List ℕ) → ((before : List Line) → repeat_causes before l ≡ [])
      → ((before : List Line) → Seen before words → Seen (l ∷ before) words)
      → (r : Result (Unit {0}) Answer) → fault_of r ≡ leftmost 1 (line_ranges top n l) → CheckedLine s at top n words words (entry_by r next size)
  ranged {l} h z words none-repeated more r e before w =
      told h z before words r (e ∙ sym (rw (none-repeated before) (else_nothing (leftmost 1 (line_ranges top n l))))) (λ q. more before w)

  pub fact_line : {c l h next : ℕ} → Says s at (fact c l h) next → (words : List ℕ) (r : Result (Unit {0}) Answer) → fault_of r ≡ leftmost 1 (line_ranges top n (fact c l h))
      → CheckedLine s at top n words words (entry_by r next 4)
  unfolding defaults
  fact_line h words r e = ranged h refl words (λ b. refl) (λ b w. record { size = w.size; are = w.are }) r e

  pub rule_few : {c w k : ℕ} {far : Maybe ℕ} {next : ℕ} → RuleSays s at n c w k far next → k ≤ 8
  rule_few h = omega (arith, entry_few s at h.says, length-map h.literals code_of, h.count)

  pub rule_far : {c w k : ℕ} {far : Maybe ℕ} {next : ℕ} → RuleSays s at n c w k far next → IfSome far (λ x. x ≤ 8)
  rule_far h = rw h.first (IfSome_then (far_in n 0 h.literals) (far_most n 0 h.literals) (λ x p. omega (arith, rule_few h, h.count)))

  pub rule_line : {c w k : ℕ} {far : Maybe ℕ} {next : ℕ} → RuleSays s at n c w k far next → (words : List ℕ) (r : Result (Unit {0}) Answer) → fault_of r ≡ rule_fault top n c w far
      → CheckedLine s at top n words words (entry_by r next (4 + k))
  unfolding defaults
  rule_line {c} {w} {k} {far} h words r e =
      ranged h.says (omega (arith, h.count, length-map h.literals code_of)) words (λ b. refl) (λ b v. record { size = v.size; are = v.are }) r
      (e ∙ rule_range top n c w far h.op h.literals h.first)

  pub query_line : {c next : ℕ} → QuerySays s at c next → (words : List ℕ) (r : Result (Unit {0}) Answer) → fault_of r ≡ query_fault n c → CheckedLine s at top n words words (entry_by r next 4)
  unfolding defaults
  query_line {c} h words r e = ranged h.says (sym (query_size h.reading c)) words (λ b. refl) (λ b w. record { size = w.size; are = w.are }) r e

  -- a D line, whose condition is below 512 where it is in range
  pub default_line : n ≤ 512 → {c next : ℕ} → Says s at (default c) next → {words words' : List ℕ} (r : Result (Unit {0}) Answer) → DefaultAs n c words words' r
      → CheckedLine s at top n words words' (entry_by r next 4)
  unfolding leftmost
  default_line m {c} h {words} {words'} r d before w =
      told h refl before words' r (d.told ∙ again (leb n c) refl) (λ e. seen_more before c w (d.inserted e))
    where
      again : (t : Bool) → leb n c ≡ t
          → or_else (leftmost 1 ([] ∷ (cause t 4 ∷ []) ∷ [] ∷ [])) (placed 0 (first_of (cause (has words c) 24 ∷ [])))
          ≡ or_else (leftmost 1 ([] ∷ (cause t 4 ∷ []) ∷ [] ∷ [])) (placed 0 (first_of (cause (leb 1 (defaults before c)) 24 ∷ [])))
      again true e = refl
      again false e = rw (w.are c (omega (arith, leb-false n c e)))
