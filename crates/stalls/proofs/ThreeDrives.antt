-- A way to make a turn with no need known beforehand: the first stall its half, the second what then remains of b, the first what still
-- remains. Assumes nothing.
use mathlib.Core.Path.{◌≡◌, refl, sym, ◌∙◌, ap, ap₂}
use mathlib.Core.Bool.{Bool, true}
use mathlib.Core.List.{List, ◌++◌}
use mathlib.Core.Option.{Option, none, some}
use Prim.Native.Nat.{ℕ, zero, suc, ◌+◌, ◌*◌, ◌-◌, ◌≤◌, min}
use native.Mathlib.Nat.{zero-add, suc-add}
use native.Mathlib.Omega.{arith}
use lib.ListN.{drop}
use Rattle.semantics.specs.Area.{sound, page_of}
use Rattle.semantics.specs.Call.{drove, drive}
use Rattle.semantics.specs.Operation.{Left, operation, drive_of}
use Rattle.semantics.specs.Page.{Page}
use Rattle.semantics.specs.RunArea.{run_of, run_sound, reached_of, worklist_of}
use Rattle.semantics.specs.Table.{member}
use Rattle.semantics.specs.Worklist.{Worklist, evaluated, holder, lowest, Status, status, Driven, one_more, drive_from, driven}
use Rattle.semantics.proofs.Areas.{Encodable, area_sound, reached_back, state_back, rest_back, sound_encodable}
use Rattle.semantics.proofs.Drives.{driven_none}
use Rattle.semantics.proofs.Invariant.{lowest_some}
use Rattle.semantics.proofs.Keeps.{drive_exact}
use Rattle.semantics.proofs.Operations.{drive_done}
use Rattle.semantics.proofs.Proper.{Proper}
use Rattle.semantics.proofs.Soundness.{sound_proper}
use Rattle.semantics.proofs.Steps.{encodable_evaluated}
use Rattle.semantics.specs.Stalls.{Stall, first, second, need, need_of, half, shared_length, part_of, Told, told_by, turned, Turn, share_of, turn_told, turn_part, turn_of, DroveAs}
use Rattle.semantics.proofs.StallsSplit.{taken_is, share_takes, halves_are, share_within}
use Rattle.semantics.proofs.StallsTurn.{Ready, turn_done, part_tells}

-- the count and the state of a drive, without its line
record Counted : Type 0 where
  taken : ℕ
  state : Worklist

abbrev counted : Driven → Counted
counted d = record { taken = d.taken; state = d.state }

abbrev plus : ℕ → Driven → Counted
plus t d = record { taken = t + d.taken; state = d.state }

abbrev next : Counted → Counted
next d = record { taken = suc d.taken; state = d.state }

module _ (page : Page) (m : List Bool) where
  -- a drive, then another, is a drive allowed both
  again : (k j : ℕ) (o : Option ℕ) (w : Worklist) → lowest w ≡ o
      → counted (drive_from page m (k + j) o w) ≡ plus (drive_from page m k o w).taken (driven page m j (drive_from page m k o w).state)
  unfolding drive_from
  again zero j o w e =
      ap₂ (λ (i : ℕ) (p : Option ℕ). counted (drive_from page m i p w)) (zero-add j) (sym e)
      ∙ ap (λ (i : ℕ). record { taken = i; state = (driven page m j w).state }) (sym (zero-add (driven page m j w).taken))
  again (suc k) j none w e =
      ap (λ (i : ℕ). counted (drive_from page m i none w)) (suc-add k j)
      ∙ ap (λ (i : ℕ). record { taken = i; state = w }) (sym (zero-add 0)) ∙ ap (plus 0) (sym (driven_none page m w j e))
  again (suc k) j (some A) w e =
      let v = evaluated page m w A in
      let d = drive_from page m k (lowest v) v in
      ap (λ (i : ℕ). counted (drive_from page m i (some A) w)) (suc-add k j) ∙ ap next (again k j (lowest v) v refl)
      ∙ ap (λ (i : ℕ). record { taken = i; state = (driven page m j d.state).state }) (sym (suc-add d.taken (driven page m j d.state).taken))

  -- only what a drive takes matters
  counts : (k : ℕ) (o : Option ℕ) (w : Worklist) → drive_from page m k o w ≡ drive_from page m (drive_from page m k o w).taken o w
  unfolding drive_from
  counts zero o w = refl
  counts (suc k) none w = refl
  counts (suc k) (some A) w = let v = evaluated page m w A in ap (one_more (holder page w A)) (counts k (lowest v) v)

  same_drive : (w : Worklist) (b k j : ℕ) → k ≤ b → j ≤ b → min k (need page m w b) ≡ min j (need page m w b) → driven page m k w ≡ driven page m j w
  same_drive w b k j l i e =
      counts k (lowest w) w ∙ ap (λ (x : ℕ). driven page m x w) (taken_is page m w b k l ∙ e ∙ sym (taken_is page m w b j i)) ∙ sym (counts j (lowest w) w)

  -- and what it leaves a run area can hold
  encodable_driven : Proper page → (k : ℕ) (o : Option ℕ) (w : Worklist) → lowest w ≡ o → Encodable page m w → Encodable page m (drive_from page m k o w).state
  unfolding drive_from
  encodable_driven p zero o w e h = h
  encodable_driven p (suc k) none w e h = h
  encodable_driven p (suc k) (some A) w e h =
      let f = lowest_some 0 w.waiting A e in
      let on : member w.waiting A ≡ true = rw (f.1 ∙ zero-add f.0) f.3 in
      let v = evaluated page m w A in
      encodable_driven p k (lowest v) v refl (encodable_evaluated page p m w h A (omega (arith, h.waiting_length)) on)

told_same : {k l k' l' : ℕ} {x x' : Status} → drove k l x ≡ drove k' l' x' → ◌≡◌ {A = Told} (record { count = k; rests = x }) (record { count = k'; rests = x' })
told_same {k} {l} {k'} {l'} {x} {x'} e =
    let c : k ≡ k' = cc in
    let d : x ≡ x' = cc in
    λ i. record { count = c i; rests = d i }

-- on areas
module _ (a r : List ℕ) (ok : sound a ≡ true) (rs : run_sound (page_of a) r ≡ true) where
  abbrev page : Page
  page = page_of a

  abbrev m : List Bool
  m = reached_of (page_of a) r

  abbrev w : Worklist
  w = worklist_of (page_of a) r

  -- as an outcome on the area
  abbrev left : Driven → Left
  left d = record { answer = drove d.taken d.line (status d.state); run = run_of page m d.state ++ drop (3 * page.conditions) r }

  drive_then : (k j : ℕ) → operation a (operation a r (drive k)).run (drive j) ≡ left (driven page m j (driven page m k w).state)
  drive_then k j =
      let d = (driven page m k w).state in
      let z = drop (3 * page.conditions) r in
      let h = encodable_driven page m (sound_proper a ok) k (lowest w) w refl (sound_encodable page r rs) in
      ap (λ (l : Left). operation a l.run (drive j)) (drive_done a r ok rs k)
      ∙ drive_done a (run_of page m d ++ z) ok (area_sound page m d h z) j
      ∙ rw (reached_back page m d h z, state_back page m d h z, rest_back page m d h z)

  -- what a drive is told to take it takes, and it rests or not
  told_of : (k : ℕ) (t : Told) → DroveAs t (operation a r (drive k)).answer → told_by (driven page m k w) ≡ t
  told_of k t e = told_same (sym (ap (λ (l : Left). l.answer) (drive_done a r ok rs k)) ∙ e.answer_is)

  -- a drive takes no more than it is allowed, and leaves the area sound
  pub drive_within : (k : ℕ) (t : Told) → DroveAs t (operation a r (drive k)).answer → t.count ≤ k
  drive_within k t e = omega (arith, ap (λ (x : Told). x.count) (told_of k t e), (drive_exact page m k w).allowed)

  pub drive_sound : (k : ℕ) → run_sound (page_of a) (operation a r (drive k)).run ≡ true
  drive_sound k =
      ap (λ (l : Left). run_sound (page_of a) l.run) (drive_done a r ok rs k)
      ∙ area_sound page m (driven page m k w).state (encodable_driven page m (sound_proper a ok) k (lowest w) w refl (sound_encodable page r rs)) (drop (3 * page.conditions) r)

  -- as much taken, as much done
  drive_same : (b k j : ℕ) → k ≤ b → j ≤ b → min k (need page m w b) ≡ min j (need page m w b) → operation a r (drive k) ≡ operation a r (drive j)
  drive_same b k j l i e = drive_done a r ok rs k ∙ ap left (same_drive page m w b k j l i e) ∙ sym (drive_done a r ok rs j)

  -- two drives are one allowed what the first took and what the second is allowed
  module _ (k j : ℕ) (t u : Told) (e : DroveAs t (operation a r (drive k)).answer) (f : DroveAs u (operation a (operation a r (drive k)).run (drive j)).answer) where
    abbrev d : Driven
    d = driven page m j (driven page m k w).state

    both : counted (driven page m (t.count + j) w) ≡ plus t.count d
    both =
        let c : (driven page m k w).taken ≡ t.count = ap (λ (x : Told). x.count) (told_of k t e) in
        let one : driven page m t.count w ≡ driven page m k w = ap (λ (i : ℕ). driven page m i w) (sym c) ∙ sym (counts page m k (lowest w) w) in
        again page m t.count j (lowest w) w refl ∙ ap (λ (v : Driven). plus v.taken (driven page m j v.state)) one ∙ ap (λ (i : ℕ). plus i d) c

    drive_twice : DroveAs (record { count = t.count + u.count; rests = u.rests }) (operation a r (drive (t.count + j))).answer
    drive_twice =
        let n : told_by d ≡ u = told_same (sym (ap (λ (l : Left). l.answer) (drive_then k j)) ∙ f.answer_is) in
        let i : (driven page m (t.count + j) w).taken ≡ t.count + u.count = ap (λ (x : Counted). x.taken) both ∙ ap (λ (x : Told). t.count + x.count) n in
        let s : status (driven page m (t.count + j) w).state ≡ u.rests = ap (λ (x : Counted). status x.state) both ∙ ap (λ (x : Told). x.rests) n in
        record {
          line = (driven page m (t.count + j) w).line;
          answer_is =
              ap (λ (l : Left). l.answer) (drive_done a r ok rs (t.count + j))
              ∙ ap₂ (λ (x : ℕ) (y : Status). drove x (driven page m (t.count + j) w).line y) i s;
        }

    drive_twice_leaves : (operation a r (drive (t.count + j))).run ≡ (operation a (operation a r (drive k)).run (drive j)).run
    drive_twice_leaves =
        ap (λ (l : Left). l.run) (drive_done a r ok rs (t.count + j))
        ∙ ap (λ (x : Counted). run_of page m x.state ++ drop (3 * page.conditions) r) both ∙ sym (ap (λ (l : Left). l.run) (drive_then k j))

-- what the second stall is allowed, and the first in all
second_allowed : (b h g own others : ℕ) → h + g ≡ b → min (b - min h others) own ≡ min (g + (h - others)) own
second_allowed b h g own others e = let k : b - min h others ≡ g + (h - others) = omega arith in ap (λ (x : ℕ). min x own) k

first_allowed : (b h g own others : ℕ) → h + g ≡ b → min (b - min (g + (h - own)) others) own ≡ min (h + (g - others)) own
first_allowed b h g own others e = omega arith

module _ (a area : List ℕ) (b : ℕ) (r : Ready a area b) (one two three : Told)
    (e₁ : DroveAs one (drive_of a (part_of (page_of a) first area) (half b first)).answer)
    (e₂ : DroveAs two (drive_of a (part_of (page_of a) second area) (b - one.count)).answer)
    (e₃ : DroveAs three (drive_of a (drive_of a (part_of (page_of a) first area) (half b first)).run (b - (one.count + two.count))).answer) where
  abbrev part : Stall → List ℕ
  part s = part_of (page_of a) s area

  abbrev n : Stall → ℕ
  n s = need_of (page_of a) (part_of (page_of a) s area) b

  abbrev h : Stall → ℕ
  h = half b

  sum : half b first + half b second ≡ b
  sum = (halves_are b).whole

  -- what the first two drives take
  count : (s : Stall) (k : ℕ) (t : Told) → k ≤ b → DroveAs t (drive_of a (part s) k).answer → t.count ≡ min k (n s)
  count s k t l e =
      sym (ap (λ (x : Told). x.count) (told_of a (part s) r.page_sound (r.parts_sound s) k t e))
      ∙ taken_is (page_of a) (reached_of (page_of a) (part s)) (worklist_of (page_of a) (part s)) b k l

  count₁ : one.count ≡ min (h first) (n first)
  count₁ = count first (half b first) one (omega (arith, sum)) e₁

  count₂ : two.count ≡ min (b - one.count) (n second)
  count₂ = count second (b - one.count) two (omega arith) e₂

  gives₂ : min (b - one.count) (n second) ≡ min (h second + (h first - n first)) (n second)
  gives₂ = ap (λ (t : ℕ). min (b - t) (n second)) count₁ ∙ second_allowed b (h first) (h second) (n second) (n first) sum

  pub turn_within : one.count + two.count ≤ b
  turn_within = omega (arith, count₁, count₂, sum)

  gives₁ : min (one.count + (b - (one.count + two.count))) (n first) ≡ min (h first + (h second - n second)) (n first)
  gives₁ =
      let k : one.count + (b - (one.count + two.count)) ≡ b - two.count = omega (arith, turn_within) in
      ap (λ (x : ℕ). min x (n first)) (k ∙ ap (λ (t : ℕ). b - t) (count₂ ∙ gives₂)) ∙ first_allowed b (h first) (h second) (n first) (n second) sum

  -- what the split gives each stall it takes in these drives
  second_is : turn_part a second area b ≡ drive_of a (part second) (b - one.count)
  second_is =
      drive_same a (part second) r.page_sound (r.parts_sound second) b (share_of (page_of a) second area b) (b - one.count)
      (share_within b (n second) (n first) second) (omega arith) (share_takes b (n second) (n first) second ∙ sym gives₂)

  first_is : turn_part a first area b ≡ drive_of a (part first) (one.count + (b - (one.count + two.count)))
  first_is =
      drive_same a (part first) r.page_sound (r.parts_sound first) b (share_of (page_of a) first area b) (one.count + (b - (one.count + two.count)))
      (share_within b (n first) (n second) first) (omega (arith, turn_within)) (share_takes b (n first) (n second) first ∙ sym gives₁)

  told : (s : Stall) (t : Told) → DroveAs t (turn_part a s area b).answer → turn_told (page_of a) s area b ≡ t
  told s t e = told_same (sym (part_tells a area b r s).answer_is ∙ e.answer_is)

  -- what each is told
  pub turn_tells : (turn_of a area b).answer ≡ turned (record { count = one.count + three.count; rests = three.rests }) two
  turn_tells =
      ap (λ (x : Turn). x.answer) (turn_done a area b r)
      ∙ ap₂ turned
      (told first (record { count = one.count + three.count; rests = three.rests }) (rw first_is (drive_twice a (part first) r.page_sound (r.parts_sound first) (half b first) (b - (one.count + two.count)) one three e₁ e₃)))
      (told second two (rw second_is e₂))

  -- and what is left
  pub turn_leaves_three : (turn_of a area b).area
      ≡ (drive_of a (drive_of a (part_of (page_of a) first area) (half b first)).run (b - (one.count + two.count))).run
      ++ ((drive_of a (part_of (page_of a) second area) (b - one.count)).run ++ drop (shared_length (page_of a)) area)
  turn_leaves_three =
      ap (λ (x : Turn). x.area) (turn_done a area b r)
      ∙ ap₂ (λ (l k : List ℕ). l ++ (k ++ drop (shared_length (page_of a)) area))
      (ap (λ (l : Left). l.run) first_is ∙ drive_twice_leaves a (part first) r.page_sound (r.parts_sound first) (half b first) (b - (one.count + two.count)) one three e₁ e₃)
      (ap (λ (l : Left). l.run) second_is)
