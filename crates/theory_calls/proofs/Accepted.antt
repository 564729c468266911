-- What an accepted call has been given: the facts that later laws cite, so that none of them unfolds the checks.
--     joined                        two orders that pass are one that passes
--     Sound f                       refusals 1 to 6 hold nowhere in the file
--     SiteOk s                      the site is 1, 2 or 3
--     front                         1 to 8, which all calls on inputs and tapes make
--     RunOk, run_ok, ok_run         a run's inputs, tapes, line and buffers; and back: what has them is accepted
--     ViewOk, view_ok, ok_view      a view's
--     RetapeOk, retape_ok, ok_retape    re-taping's
--     refused_13, unkept_refused    re-taping is refused with 13 exactly where own inputs or opened bits are not kept
--     ListingOk, listing_ok         a listing's;  check_sound: a checked file's
-- Assumes nothing.
use mathlib.Core.Path.{◌≡◌, refl, sym, ap, ◌∙◌, subst}
use mathlib.Core.Bool.{not}
use mathlib.Core.List.{List, [], ◌∷◌, ◌++◌, map}
use Prim.Native.Nat.{ℕ, zero, suc, ◌+◌, ◌*◌, ◌<◌}
use native.Mathlib.Omega.{arith}
use lib.ListN.{length, get_or}
use Rattle.theory_sharing.specs.Circuit.{wires, all_ands, all_owned}
use Rattle.theory_sharing.proofs.FirstLaws.{Clear}
use Rattle.theory_calls.specs.File.{inputs_of, site_of, circuit}
use Rattle.theory_calls.specs.Answer.{refused}
use Rattle.theory_calls.specs.Checks.{Refusal, refusal, tested, one_to_three, row_short, row_large, row_field, row_owner, row_gate_of, row_output, numbers_row, row_site, row_buffer, row_differs_of, file_checks, tapes_want, line_want, fault, verdict}
use Rattle.theory_calls.specs.Calls.{Call, CheckOf, Run, RunOf, View, ViewOf, RetapeOf, Listing, does, Accepts, run_wants, view_wants, retape_wants, job_file, job_inputs, job_tapes, text_bytes}
use Rattle.theory_calls.proofs.Refusals.{Clears, Passes, Without, verdict_after, last_refuses, verdict_skips, verdict_last}
use Rattle.theory_calls.specs.Statements.{circuit_with, Family, bit_family, Fitting, Numbers, Keeps}
use Rattle.theory_calls.proofs.RowLaws.{numbers_clear, clear_numbers, sizes_clear, clear_sizes, keeps_clear, clear_keeps}
use Rattle.theory_calls.proofs.FamilyLaws.{Lawful, bit_lawful}
use Rattle.theory_calls.proofs.CallLaws.{accepts_passes, passes_accepts, refused_verdict, verdict_refused}

-- an order in two parts
split : (cs ds : List Refusal) → Passes (cs ++ ds) → Passes cs × Passes ds
unfolding Passes
split [] ds h = (tt, h)
split (c ∷ cs) ds h = let r = split cs ds h.1 in ((h.0, r.0), r.1)

pub joined : (cs ds : List Refusal) → Passes cs → Passes ds → Passes (cs ++ ds)
unfolding Passes
joined [] ds a b = b
joined (c ∷ cs) ds a b = (a.0, joined cs ds a.1 b)

pub record SoundOf (F : Family) (f : List ℕ) : Type 0 where
  pub c1 : Clears (row_short f)
  pub c2 : Clears (row_large f)
  pub c3 : Clears (row_field f)
  pub c4 : Clears (row_owner f)
  pub c5 : Clears (row_gate_of F f)
  pub c6 : Clears (row_output f)

abbrev pub Sound : List ℕ → Type 0
Sound = SoundOf bit_family

abbrev pub SiteOk : ℕ → Type 0
SiteOk s = Clear (tested ((0, not (one_to_three s)) ∷ [])) 1

two_sizes : (a b p q : ℕ) → a ≡ p → b ≡ q → (k : ℕ) → k < 2 → get_or (a ∷ b ∷ []) k 0 ≡ get_or (p ∷ q ∷ []) k 0
two_sizes a b p q e h zero l = e
two_sizes a b p q e h (suc zero) l = h
two_sizes a b p q e h (suc (suc k)) l = absurd (omega arith)

three_sizes : (a b c p q r : ℕ) → a ≡ p → b ≡ q → c ≡ r → (k : ℕ) → k < 3 → get_or (a ∷ b ∷ c ∷ []) k 0 ≡ get_or (p ∷ q ∷ r ∷ []) k 0
three_sizes a b c p q r e h g zero l = e
three_sizes a b c p q r e h g (suc k) l = two_sizes b c q r h g k (omega arith)

-- 1 to 8 pass, in front of a call's further checks
front : {A : Type 0} (F : Family) (L : Lawful F) (f x t : List ℕ) → SoundOf F f → Numbers F x (inputs_of f) → Numbers F t (tapes_want (circuit_with F f)) → A
    → Clears (row_short f) × (Clears (row_large f) × (Clears (row_field f) × (Clears (row_owner f) × (Clears (row_gate_of F f) × (Clears (row_output f)
    × (Clears (numbers_row F x (inputs_of f)) × (Clears (numbers_row F t (tapes_want (circuit_with F f))) × A)))))))
front F L f x t k bx bt h =
    (k.c1, (k.c2, (k.c3, (k.c4, (k.c5, (k.c6, (clear_numbers F L x (inputs_of f) bx, (clear_numbers F L t (tapes_want (circuit_with F f)) bt, h))))))))

module _ (F : Family) (f x t l outs tr st : List ℕ) where
  pub record RunOkOf : Type 0 where
    pub sound : SoundOf F f
    pub in_x : Numbers F x (inputs_of f)
    pub in_t : Numbers F t (tapes_want (circuit_with F f))
    pub in_l : Numbers F l (line_want (circuit_with F f))
    pub outs_long : length outs ≡ 3 * (circuit_with F f).outs
    pub tr_long : length tr ≡ line_want (circuit_with F f)
    pub st_long : length st ≡ 6 * wires (circuit_with F f)

module _ (F : Family) (L : Lawful F) (f x t l outs tr st : List ℕ) where
  pub run_ok_of : Fitting F x → Fitting F t → Fitting F l → Accepts (RunOf F f x t l outs tr st) → RunOkOf F f x t l outs tr st
  unfolding Passes RunOf
  run_ok_of fx ft fl a =
      let h = accepts_passes (RunOf F f x t l outs tr st) a in
      let sizes = sizes_clear (length outs ∷ length tr ∷ length st ∷ []) (run_wants (circuit_with F f)) 3 h.1.1.1.1.1.1.1.1.1.0 in
      record {
        sound = record { c1 = h.0; c2 = h.1.0; c3 = h.1.1.0; c4 = h.1.1.1.0; c5 = h.1.1.1.1.0; c6 = h.1.1.1.1.1.0 };
        in_x = numbers_clear F L x (inputs_of f) fx h.1.1.1.1.1.1.0;
        in_t = numbers_clear F L t (tapes_want (circuit_with F f)) ft h.1.1.1.1.1.1.1.0;
        in_l = numbers_clear F L l (line_want (circuit_with F f)) fl h.1.1.1.1.1.1.1.1.0;
        outs_long = sizes 0 (omega arith);
        tr_long = sizes 1 (omega arith);
        st_long = sizes 2 (omega arith);
      }

  pub ok_run : RunOkOf F f x t l outs tr st → Accepts (RunOf F f x t l outs tr st)
  unfolding Passes RunOf
  ok_run k =
      let sizes = clear_sizes (length outs ∷ length tr ∷ length st ∷ []) (run_wants (circuit_with F f)) 3 (three_sizes _ _ _ _ _ _ k.outs_long k.tr_long k.st_long) in
      passes_accepts (RunOf F f x t l outs tr st) (front F L f x t k.sound k.in_x k.in_t (clear_numbers F L l (line_want (circuit_with F f)) k.in_l, (sizes, tt)))

module _ (F : Family) (f x t : List ℕ) (s : ℕ) (v st : List ℕ) where
  pub record ViewOkOf : Type 0 where
    pub sound : SoundOf F f
    pub in_x : Numbers F x (inputs_of f)
    pub in_t : Numbers F t (tapes_want (circuit_with F f))
    pub site : SiteOk s
    pub v_long : length v ≡ 2 * (circuit_with F f).ins + all_owned (circuit_with F f) (site_of s) + 6 * all_ands (circuit_with F f) + 3 * (circuit_with F f).outs
    pub st_long : length st ≡ 6 * wires (circuit_with F f)

module _ (F : Family) (L : Lawful F) (f x t : List ℕ) (s : ℕ) (v st : List ℕ) where
  pub view_ok_of : Fitting F x → Fitting F t → Accepts (ViewOf F f x t s v st) → ViewOkOf F f x t s v st
  unfolding Passes ViewOf
  view_ok_of fx ft a =
      let h = accepts_passes (ViewOf F f x t s v st) a in
      let sizes = sizes_clear (length v ∷ length st ∷ []) (view_wants (circuit_with F f) s) 2 h.1.1.1.1.1.1.1.1.1.0 in
      record {
        sound = record { c1 = h.0; c2 = h.1.0; c3 = h.1.1.0; c4 = h.1.1.1.0; c5 = h.1.1.1.1.0; c6 = h.1.1.1.1.1.0 };
        in_x = numbers_clear F L x (inputs_of f) fx h.1.1.1.1.1.1.0;
        in_t = numbers_clear F L t (tapes_want (circuit_with F f)) ft h.1.1.1.1.1.1.1.0;
        site = h.1.1.1.1.1.1.1.1.0;
        v_long = sizes 0 (omega arith);
        st_long = sizes 1 (omega arith);
      }

  pub ok_view : ViewOkOf F f x t s v st → Accepts (ViewOf F f x t s v st)
  unfolding Passes ViewOf
  ok_view k =
      let sizes = clear_sizes (length v ∷ length st ∷ []) (view_wants (circuit_with F f) s) 2 (two_sizes _ _ _ _ k.v_long k.st_long) in
      passes_accepts (ViewOf F f x t s v st) (front F L f x t k.sound k.in_x k.in_t (k.site, (sizes, tt)))

module _ (F : Family) (f x t y : List ℕ) (s : ℕ) (nt wr : List ℕ) where
  -- all but 13
  pub record RetapeGiven : Type 0 where
    pub sound : SoundOf F f
    pub in_x : Numbers F x (inputs_of f)
    pub in_t : Numbers F t (tapes_want (circuit_with F f))
    pub site : SiteOk s
    pub nt_long : length nt ≡ tapes_want (circuit_with F f)
    pub wr_long : length wr ≡ 4 * wires (circuit_with F f)
    pub in_y : Numbers F y (inputs_of f)

  pub record RetapeOk : Type 0 where
    pub given : RetapeGiven
    pub keeps : Keeps F (site_of s) (circuit_with F f) x y

  -- refused with 13: all else is as it should be, and own inputs or opened bits are not kept
  pub record Refused13 : Type 0 where
    pub given : RetapeGiven
    pub unkept : ¬ Keeps F (site_of s) (circuit_with F f) x y

module _ (F : Family) (L : Lawful F) (f x t y : List ℕ) (s : ℕ) (nt wr : List ℕ) where
  abbrev called : Call
  called = RetapeOf F f x t y s nt wr

  abbrev Given : Type 0
  Given = RetapeGiven F f x t y s nt wr

  -- its checks but 13, and 13
  abbrev but_13 : List Refusal
  but_13 =
      file_checks F f ++ (
      refusal 7 (numbers_row F x (inputs_of f)) ∷ refusal 8 (numbers_row F t (tapes_want (circuit_with F f))) ∷ refusal 11 (row_site s)
      ∷ refusal 10 (row_buffer (map length (nt ∷ wr ∷ [])) (retape_wants (circuit_with F f))) ∷ refusal 12 (numbers_row F y (inputs_of f)) ∷ [])

  abbrev at_13 : Refusal
  at_13 = refusal 13 (row_differs_of F (circuit_with F f) s x y)

  given_by : Fitting F x → Fitting F t → Fitting F y → Passes but_13 → Given
  unfolding Passes
  given_by fx ft fy h =
      let sizes = sizes_clear (length nt ∷ length wr ∷ []) (retape_wants (circuit_with F f)) 2 h.1.1.1.1.1.1.1.1.1.0 in
      record {
        sound = record { c1 = h.0; c2 = h.1.0; c3 = h.1.1.0; c4 = h.1.1.1.0; c5 = h.1.1.1.1.0; c6 = h.1.1.1.1.1.0 };
        in_x = numbers_clear F L x (inputs_of f) fx h.1.1.1.1.1.1.0;
        in_t = numbers_clear F L t (tapes_want (circuit_with F f)) ft h.1.1.1.1.1.1.1.0;
        site = h.1.1.1.1.1.1.1.1.0;
        nt_long = sizes 0 (omega arith);
        wr_long = sizes 1 (omega arith);
        in_y = numbers_clear F L y (inputs_of f) fy h.1.1.1.1.1.1.1.1.1.1.0;
      }

  given_passes : Given → Passes but_13
  unfolding Passes
  given_passes k =
      let sizes = clear_sizes (length nt ∷ length wr ∷ []) (retape_wants (circuit_with F f)) 2 (two_sizes _ _ _ _ k.nt_long k.wr_long) in
      front F L f x t k.sound k.in_x k.in_t (k.site, (sizes, (clear_numbers F L y (inputs_of f) k.in_y, tt)))

  goes : called.checks ≡ but_13 ++ (at_13 ∷ [])
  unfolding RetapeOf
  goes = refl

  pub retape_ok : Fitting F x → Fitting F t → Fitting F y → Accepts called → RetapeOk F f x t y s nt wr
  unfolding Passes
  retape_ok fx ft fy a =
      let h = split but_13 (at_13 ∷ []) (subst Passes goes (accepts_passes called a)) in
      record { given = given_by fx ft fy h.0; keeps = keeps_clear F (site_of s) (circuit_with F f) x y h.1.0 }

  pub ok_retape : RetapeOk F f x t y s nt wr → Accepts called
  unfolding Passes
  ok_retape k =
      passes_accepts called
      (subst Passes (sym goes) (joined but_13 (at_13 ∷ []) (given_passes k.given) (clear_keeps F (site_of s) (circuit_with F f) x y k.keeps, tt)))

  no_13 : Without 13 but_13
  unfolding Without
  no_13 = omega arith

  pub refused_13 : Fitting F x → Fitting F t → Fitting F y → (p : ℕ) → (does called).answer ≡ refused 13 p → Refused13 F f x t y s nt wr
  refused_13 fx ft fy p e =
      let r = verdict_after 13 p but_13 (at_13 ∷ []) no_13 (ap verdict (sym goes) ∙ refused_verdict called 13 p e) in
      record { given = given_by fx ft fy r.0; unkept = λ k. last_refuses 13 p at_13.row r.1 (clear_keeps F (site_of s) (circuit_with F f) x y k) }

  -- and back: where all else is as it should be and they are not kept, it is refused with 13
  pub unkept_refused : Given → ¬ Keeps F (site_of s) (circuit_with F f) x y → (p : ℕ) × ((does called).answer ≡ refused 13 p)
  unkept_refused k h = (
    fault at_13.row,
    verdict_refused called 13 (fault at_13.row)
        (ap verdict goes ∙ verdict_skips but_13 (at_13 ∷ []) (given_passes k) ∙ verdict_last 13 at_13.row (λ c. h (keeps_clear F (site_of s) (circuit_with F f) x y c))),
  )

-- at bits
abbrev pub RunOk : (f x t l outs tr st : List ℕ) → Type 0
RunOk = RunOkOf bit_family

pub run_ok : (f x t l outs tr st : List ℕ) → Accepts (Run f x t l outs tr st) → RunOk f x t l outs tr st
run_ok f x t l outs tr st = run_ok_of bit_family bit_lawful f x t l outs tr st (λ k. tt) (λ k. tt) (λ k. tt)

abbrev pub ViewOk : (f x t : List ℕ) (s : ℕ) (v st : List ℕ) → Type 0
ViewOk = ViewOkOf bit_family

pub view_ok : (f x t : List ℕ) (s : ℕ) (v st : List ℕ) → Accepts (View f x t s v st) → ViewOk f x t s v st
view_ok f x t s v st = view_ok_of bit_family bit_lawful f x t s v st (λ k. tt) (λ k. tt)

-- a listing's job, and its buffer
pub record ListingOk (j b : List ℕ) : Type 0 where
  pub sound : Sound (job_file j)
  pub in_x : Numbers bit_family (job_inputs j) (inputs_of (job_file j))
  pub in_t : Numbers bit_family (job_tapes j) (tapes_want (circuit (job_file j)))
  pub b_long : length b ≡ text_bytes

pub listing_ok : (j b : List ℕ) → Accepts (Listing j b) → ListingOk j b
unfolding Passes Listing
listing_ok j b a =
    let h = (accepts_passes (Listing j b) a).1 in
    record {
      sound = record { c1 = h.0; c2 = h.1.0; c3 = h.1.1.0; c4 = h.1.1.1.0; c5 = h.1.1.1.1.0; c6 = h.1.1.1.1.1.0 };
      in_x = numbers_clear bit_family bit_lawful (job_inputs j) (inputs_of (job_file j)) (λ k. tt) h.1.1.1.1.1.1.0;
      in_t = numbers_clear bit_family bit_lawful (job_tapes j) (tapes_want (circuit (job_file j))) (λ k. tt) h.1.1.1.1.1.1.1.0;
      b_long = sizes_clear (length b ∷ []) (text_bytes ∷ []) 1 h.1.1.1.1.1.1.1.1.0 0 (omega arith);
    }

pub check_sound : (F : Family) (f : List ℕ) → Accepts (CheckOf F f) → SoundOf F f
unfolding Passes CheckOf
check_sound F f a =
    let h = accepts_passes (CheckOf F f) a in
    record { c1 = h.0; c2 = h.1.0; c3 = h.1.1.0; c4 = h.1.1.1.0; c5 = h.1.1.1.1.0; c6 = h.1.1.1.1.1.0 }
