-- The three drives of a turn, on the shared area. Assumes nothing.
use mathlib.Core.Path.{◌≡◌, sym, ◌∙◌, ap, ap₂}
use mathlib.Core.Bool.{Bool, true}
use mathlib.Core.List.{List, ◌++◌}
use Prim.Native.Nat.{ℕ, ◌+◌, ◌-◌, ◌≤◌}
use native.Mathlib.Omega.{arith}
use lib.ListN.{length, take, drop, take-append-drop}
use lib.Seq.{drop-drop}
use Rattle.semantics.specs.Area.{sound, page_of}
use Rattle.semantics.specs.Call.{drive}
use Rattle.semantics.specs.Operation.{drive_of}
use Rattle.semantics.specs.Page.{Page}
use Rattle.semantics.specs.RunArea.{run_sound}
use Rattle.semantics.specs.Stalls.{Stall, first, second, other, half, run_length, shared_length, part_of, Told, turned, turn_of, DroveAs}
use Rattle.semantics.proofs.StallsParts.{length_operation, length_part, part_with, length_with, other_kept, past_kept}
use Rattle.semantics.proofs.StallsSplit.{halves_are}
use Rattle.semantics.proofs.StallsTurn.{Ready}
use Rattle.run.specs.Answers.{status_if}
use Rattle.stalls.specs.Answers.{PartDrives}
use Rattle.stalls.proofs.ThreeDrives.{drive_within, drive_sound, turn_tells, turn_leaves_three}

-- the two parts and what lies past them are the area
parts_are : (page : Page) (area : List ℕ) → area ≡ part_of page first area ++ (part_of page second area ++ drop (shared_length page) area)
unfolding part_of
parts_are page area =
    let n = run_length page in
    let e : shared_length page ≡ n + n = omega arith in
    sym (take-append-drop n area)
    ∙ ap (λ (l : List ℕ). take n area ++ l) (sym (take-append-drop n (drop n area)))
    ∙ ap (λ (l : List ℕ). take n area ++ (take n (drop n area) ++ l)) (drop-drop n n area ∙ ap (λ (k : ℕ). drop k area) (sym e))

-- what a drive of one part keeps
record Kept (a : List ℕ) (s : Stall) (area : List ℕ) (k : ℕ) (area' : List ℕ) : Type 0 where
  long : shared_length (page_of a) ≤ length area'
  own : part_of (page_of a) s area' ≡ (drive_of a (part_of (page_of a) s area) k).run
  others : part_of (page_of a) (other s) area' ≡ part_of (page_of a) (other s) area
  past : drop (shared_length (page_of a)) area' ≡ drop (shared_length (page_of a)) area

kept : (a : List ℕ) (s : Stall) (area : List ℕ) → shared_length (page_of a) ≤ length area → {k t : ℕ} {x : Bool} {area' : List ℕ} → PartDrives a s area k t x area' → Kept a s area k area'
kept a s area long {k} d =
    let p = part_of (page_of a) s area in
    let q = (drive_of a p k).run in
    let l = length_operation a p (drive k) ∙ length_part (page_of a) s area long in
    rw d.area_is (record {
      long = omega (arith, length_with (page_of a) s area long q l);
      own = part_with (page_of a) s area long q l;
      others = other_kept (page_of a) area long q l s;
      past = past_kept (page_of a) area long q l s;
    })

abbrev told : ℕ → Bool → Told
told t x = record { count = t; rests = status_if x }

module _ (a area : List ℕ) (b : ℕ) (q : (sound a ≡ true) × (shared_length (page_of a) ≤ length area)
    × (run_sound (page_of a) (part_of (page_of a) first area) ≡ true) × (run_sound (page_of a) (part_of (page_of a) second area) ≡ true)) where
  ready : Ready a area b
  ready = record { page_sound = q.0; long = q.1; parts_sound = each }
    where
      each : (s : Stall) → run_sound (page_of a) (part_of (page_of a) s area) ≡ true
      each first = q.2
      each second = q.3

  -- after the first stall's half
  module _ {t₁ : ℕ} {x₁ : Bool} {area₁ : List ℕ} (d₁ : PartDrives a first area (half b first) t₁ x₁ area₁) where
    k₁ : Kept a first area (half b first) area₁
    k₁ = kept a first area q.1 d₁

    pub within_1 : t₁ ≤ b
    within_1 = omega (arith, drive_within a (part_of (page_of a) first area) q.0 q.2 (half b first) (told t₁ x₁) d₁.tells, (halves_are b).whole)

    pub long_1 : shared_length (page_of a) ≤ length area₁
    long_1 = k₁.long

    pub sound_1 : run_sound (page_of a) (part_of (page_of a) second area₁) ≡ true
    sound_1 = rw k₁.others q.3

    -- and after the second stall's drive
    module _ {t₂ : ℕ} {x₂ : Bool} {area₂ : List ℕ} (d₂ : PartDrives a second area₁ (b - t₁) t₂ x₂ area₂) where
      k₂ : Kept a second area₁ (b - t₁) area₂
      k₂ = kept a second area₁ long_1 d₂

      tells₂ : DroveAs (told t₂ x₂) (drive_of a (part_of (page_of a) second area) (b - t₁)).answer
      tells₂ = rw k₁.others at d₂.tells

      first_2 : part_of (page_of a) first area₂ ≡ (drive_of a (part_of (page_of a) first area) (half b first)).run
      first_2 = k₂.others ∙ k₁.own

      pub within_2 : t₁ + t₂ ≤ b
      within_2 = omega (arith, within_1, drive_within a (part_of (page_of a) second area) q.0 q.3 (b - t₁) (told t₂ x₂) tells₂)

      pub long_2 : shared_length (page_of a) ≤ length area₂
      long_2 = k₂.long

      pub sound_2 : run_sound (page_of a) (part_of (page_of a) first area₂) ≡ true
      sound_2 = rw first_2 (drive_sound a (part_of (page_of a) first area) q.0 q.2 (half b first))

      -- and after the first stall's second drive
      module _ {t₃ : ℕ} {x₃ : Bool} {area₃ : List ℕ} (d₃ : PartDrives a first area₂ (b - (t₁ + t₂)) t₃ x₃ area₃) where
        k₃ : Kept a first area₂ (b - (t₁ + t₂)) area₃
        k₃ = kept a first area₂ long_2 d₃

        tells₃ : DroveAs (told t₃ x₃) (drive_of a (drive_of a (part_of (page_of a) first area) (half b first)).run (b - (t₁ + t₂))).answer
        tells₃ = rw first_2 at d₃.tells

        pub within_3 : t₁ + t₃ ≤ b
        within_3 = omega (arith, within_2, drive_within a (part_of (page_of a) first area₂) q.0 sound_2 (b - (t₁ + t₂)) (told t₃ x₃) d₃.tells)

        pub turn_answers : turned (told (t₁ + t₃) x₃) (told t₂ x₂) ≡ (turn_of a area b).answer
        turn_answers = sym (turn_tells a area b ready (told t₁ x₁) (told t₂ x₂) (told t₃ x₃) d₁.tells tells₂ tells₃)

        pub turn_area : area₃ ≡ (turn_of a area b).area
        turn_area =
            parts_are (page_of a) area₃
            ∙ ap₂ (λ (l k : List ℕ). l ++ (k ++ drop (shared_length (page_of a)) area₃))
            (k₃.own ∙ ap (λ (l : List ℕ). (drive_of a l (b - (t₁ + t₂))).run) first_2)
            (k₃.others ∙ k₂.own ∙ ap (λ (l : List ℕ). (drive_of a l (b - t₁)).run) k₁.others)
            ∙ ap (λ (l : List ℕ). (drive_of a (drive_of a (part_of (page_of a) first area) (half b first)).run (b - (t₁ + t₂))).run ++ ((drive_of a (part_of (page_of a) second area) (b - t₁)).run ++ l)) (k₃.past ∙ k₂.past ∙ k₁.past)
            ∙ sym (turn_leaves_three a area b ready (told t₁ x₁) (told t₂ x₂) (told t₃ x₃) d₁.tells tells₂ tells₃)
