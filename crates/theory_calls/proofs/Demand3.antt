-- Demand 3 about whole calls, for a family: views and re_taping. At bits: theory_demands/proofs/Demands.antt.
-- Assumes nothing.
use mathlib.Core.Path.{◌≡◌, sym, ap, ◌∙◌, subst}
use mathlib.Core.List.{List, [], ◌++◌, map}
use Prim.Native.Nat.{ℕ, ◌+◌, ◌*◌}
use lib.ListN.{length, get_or}
use Rattle.theory_sharing.specs.Sites.{Site, of}
use Rattle.theory_sharing.specs.Circuit.{Circuit, Errors, no_errors, wires, all_ands, all_owned}
use Rattle.theory_sharing.specs.Published.{Parts, parts}
use Rattle.theory_sharing.specs.Steps.{Pair, Wire}
use Rattle.theory_sharing.specs.Run.{after}
use Rattle.theory_sharing.specs.Tapes.{read}
use Rattle.theory_sharing.specs.Store.{side, store}
use Rattle.theory_sharing.specs.View.{view_from}
use Rattle.theory_sharing.specs.Retape.{mine, new_tapes}
use Rattle.theory_sharing.proofs.Clean.{held}
use Rattle.theory_sharing.proofs.RunLaws as RL
use Rattle.theory_sharing.proofs.StoreLaws.{store_side, side_map, side_held}
use Rattle.theory_sharing.proofs.ViewLaws as VL
use Rattle.theory_sharing.proofs.TapeLaws.{tapes_length}
use Rattle.theory_sharing.proofs.RetapeLaws as L
use Rattle.theory_calls.specs.File.{site_of}
use Rattle.theory_calls.specs.Answer.{refused, After}
use Rattle.theory_calls.specs.Checks.{tapes_want}
use Rattle.theory_calls.specs.Calls.{Call, RunOf, ViewOf, RetapeOf, does, Accepts, buffer, both_plain_of, work_room_of, at_wire}
use Rattle.theory_calls.specs.Statements.{circuit_with, Family, Fitting, Numbers, Clean, part_of, Keeps}
use Rattle.theory_calls.proofs.FamilyLaws.{Lawful, group, draws_ok}
use Rattle.theory_calls.proofs.CallLaws.{accepts_does}
use Rattle.theory_calls.proofs.Accepted.{view_ok_of, ok_view, RetapeGiven, RetapeOk, retape_ok, ok_retape, refused_13, unkept_refused}
use Rattle.theory_calls.proofs.RunCall as RC
use Rattle.theory_calls.proofs.RetapeCall.{view_does, retape_does, keeps_back, keeps_through, taped, alike, new_numbers, view_keeps}

pub view_length : (F : Family) (law : Lawful F) (f x t : List ℕ) (s : ℕ) (v st : List ℕ) → Fitting F x → Fitting F t → Accepts (ViewOf F f x t s v st)
    → length (buffer 0 (ViewOf F f x t s v st)) ≡ 2 * (circuit_with F f).ins + all_owned (circuit_with F f) (site_of s) + 6 * all_ands (circuit_with F f) + 3 * (circuit_with F f).outs
view_length F law f x t s v st fx ft a =
    let k = view_ok_of F law f x t s v st fx ft a in
    ap length (view_does F f x t s v st a)
    ∙ VL.view_length (group F law) (site_of s) (circuit_with F f) (at_wire x) t (k.in_t.long ∙ sym (tapes_length (circuit_with F f))) (draws_ok F law (circuit_with F f) t k.in_t.small)

-- a site's pairs in a run on a clean line, as its part of the store has them
abbrev pairs_of : Family → Site → Circuit → List ℕ → List ℕ → List ℕ
pairs_of F s C x t = side (λ (w : Wire). of w s) (after F.ops C (at_wire x) (read C t) no_errors C.gates)

-- they are its published parts
pairs_mine : (F : Family) (law : Lawful F) (s : Site) (C : Circuit) (x t : List ℕ) → ((k : ℕ) → F.Small (get_or t k 0)) → pairs_of F s C x t ≡ side (λ (p : Pair). p) (map (mine s) (parts F.ops C (at_wire x) (read C t) C.gates))
pairs_mine F law s C x t ok =
    let ps : List Parts = parts F.ops C (at_wire x) (read C t) C.gates in
    ap (side (λ (w : Wire). of w s)) (held (group F law) C (at_wire x) (read C t) (draws_ok F law C t ok) C.gates) ∙ side_held s ps ∙ sym (side_map (mine s) ps)

-- and what a clean run's store has in its part
run_part : (F : Family) (f x t l outs tr st : List ℕ) → Accepts (RunOf F f x t l outs tr st) → Clean l → (s : Site)
    → part_of s (circuit_with F f) (buffer 2 (RunOf F f x t l outs tr st)) ≡ pairs_of F s (circuit_with F f) x t
run_part F f x t l outs tr st a h s =
    let C = circuit_with F f in
    let ws : List Wire = after F.ops C (at_wire x) (read C t) no_errors C.gates in
    ap (part_of s C)
    (RC.run_store F f x t l outs tr st a ∙ ap (λ (e : Errors). store (after F.ops C (at_wire x) (read C t) e C.gates)) (RC.clean_errors C l h))
    ∙ store_side ws (wires C) (RL.after_length F.ops C (at_wire x) (read C t) no_errors C.gates) s

module _ (F : Family) (law : Lawful F) (f x t y : List ℕ) (s : ℕ) (nt wr : List ℕ) (fx : Fitting F x) (ft : Fitting F t) (fy : Fitting F y) where
  abbrev K : Circuit
  K = circuit_with F f

  abbrev S : Site
  S = site_of s

  abbrev re_taping : Call
  re_taping = RetapeOf F f x t y s nt wr

  abbrev new : List ℕ
  new = buffer 0 re_taping

  module _ (a : Accepts re_taping) where
    ok : RetapeOk F f x t y s nt wr
    ok = retape_ok F law f x t y s nt wr fx ft fy a

    new_is : new ≡ new_tapes F.ops S K (at_wire x) (at_wire y) t
    new_is = retape_does F f x t y s nt wr a

    new_good : Numbers F new (tapes_want K)
    new_good = subst (λ (z : List ℕ). Numbers F z (tapes_want K)) (sym new_is) (new_numbers F law S K x y t ok.given.in_x ok.given.in_y ok.given.in_t)

    pub new_tapes_length : length new ≡ 2 * K.ins + 6 * all_ands K
    new_tapes_length = new_good.long

    abbrev made_good : Numbers F (new_tapes F.ops S K (at_wire x) (at_wire y) t) (tapes_want K)
    made_good = new_numbers F law S K x y t ok.given.in_x ok.given.in_y ok.given.in_t

    pub new_tapes_give_the_same_view : (v st : List ℕ) → Accepts (ViewOf F f x t s v st) → (v' st' : List ℕ) → length v' ≡ length v → length st' ≡ length st
        → Accepts (ViewOf F f y new s v' st') × (buffer 0 (ViewOf F f y new s v' st') ≡ buffer 0 (ViewOf F f x t s v st))
    new_tapes_give_the_same_view v st b v' st' hv hs =
        let k = view_ok_of F law f x t s v st fx ft b in
        let c : Accepts (ViewOf F f y new s v' st') =
        ok_view F law f y new s v' st' (record { sound = k.sound; in_x = ok.given.in_y; in_t = new_good; site = k.site; v_long = hv ∙ k.v_long; st_long = hs ∙ k.st_long }) in (
          c,
          view_does F f y new s v' st' c ∙ ap (view_from F.ops S K (at_wire y)) new_is
              ∙ L.same_view (group F law) S K t (taped F law S K t ok.given.in_t) (taped F law S K _ made_good) (alike F law S K x y ok.given.in_x ok.given.in_y ok.keeps)
              ∙ sym (view_does F f x t s v st b),
        )

    pub no_other_tapes_do : (v st : List ℕ) → Accepts (ViewOf F f x t s v st) → (u v' st' : List ℕ) → Fitting F u → Accepts (ViewOf F f y u s v' st')
        → buffer 0 (ViewOf F f y u s v' st') ≡ buffer 0 (ViewOf F f x t s v st) → u ≡ new
    no_other_tapes_do v st b u v' st' fu c e =
        let k = view_ok_of F law f y u s v' st' fy fu c in
        L.only_these (group F law) S K t u (taped F law S K t ok.given.in_t) (taped F law S K u k.in_t) (alike F law S K x y ok.given.in_x ok.given.in_y ok.keeps)
        (sym (view_does F f y u s v' st' c) ∙ e ∙ view_does F f x t s v st b)
        ∙ sym new_is

    -- what a second re_taping is given: first inputs, tapes and second inputs of its own, and buffers as long as the first's
    second_ok : (x' t' y' nt' wr' : List ℕ) → length nt' ≡ length nt → length wr' ≡ length wr
        → Numbers F x' K.ins → Numbers F t' (tapes_want K) → Numbers F y' K.ins → Keeps F S K x' y' → Accepts (RetapeOf F f x' t' y' s nt' wr')
    second_ok x' t' y' nt' wr' hn hw bx bt by keeps = ok_retape F law f x' t' y' s nt' wr' (record {
      given = record {
        sound = ok.given.sound;
        in_x = bx;
        in_t = bt;
        site = ok.given.site;
        nt_long = hn ∙ ok.given.nt_long;
        wr_long = hw ∙ ok.given.wr_long;
        in_y = by;
      };
      keeps = keeps;
    })

    pub going_back_returns_the_first_tapes : (nt' wr' : List ℕ) → length nt' ≡ length nt → length wr' ≡ length wr
        → let back = RetapeOf F f y new x s nt' wr' in Accepts back × (buffer 0 back ≡ t)
    going_back_returns_the_first_tapes nt' wr' hn hw =
        let c = second_ok y new x nt' wr' hn hw ok.given.in_y new_good ok.given.in_x (keeps_back F S K x y ok.keeps) in (
          c,
          retape_does F f y new x s nt' wr' c ∙ ap (new_tapes F.ops S K (at_wire y) (at_wire x)) new_is
              ∙ L.there_and_back (group F law) S K t (taped F law S K t ok.given.in_t) (taped F law S K _ made_good) (alike F law S K x y ok.given.in_x ok.given.in_y ok.keeps),
        )

    pub by_way_of_a_third : (z nt' wr' : List ℕ) → Fitting F z → Accepts (RetapeOf F f x t z s nt' wr') → (nt'' wr'' : List ℕ) → length nt'' ≡ length nt → length wr'' ≡ length wr
        → let way = RetapeOf F f y new z s nt'' wr'' in Accepts way × (buffer 0 way ≡ buffer 0 (RetapeOf F f x t z s nt' wr'))
    by_way_of_a_third z nt' wr' fz b nt'' wr'' hn hw =
        let k = retape_ok F law f x t z s nt' wr' fx ft fz b in
        let yz : Keeps F S K y z = keeps_through F S K y x z (keeps_back F S K x y ok.keeps) k.keeps in
        let c = second_ok y new z nt'' wr'' hn hw ok.given.in_y new_good k.given.in_y yz in (
          c,
          retape_does F f y new z s nt'' wr'' c ∙ ap (new_tapes F.ops S K (at_wire y) (at_wire z)) new_is
              ∙ L.by_third (group F law) S K t (taped F law S K t ok.given.in_t) (taped F law S K _ made_good)
              (taped F law S K _ (new_numbers F law S K x z t k.given.in_x k.given.in_y k.given.in_t))
              (alike F law S K x y ok.given.in_x ok.given.in_y ok.keeps) (alike F law S K y z ok.given.in_y k.given.in_y yz)
              ∙ sym (retape_does F f x t z s nt' wr' b),
        )

    pub straight_is_accepted_too : (z nt' wr' : List ℕ) → Fitting F z → Accepts (RetapeOf F f y new z s nt' wr') → (nt'' wr'' : List ℕ) → length nt'' ≡ length nt → length wr'' ≡ length wr
        → Accepts (RetapeOf F f x t z s nt'' wr'')
    straight_is_accepted_too z nt' wr' fz b nt'' wr'' hn hw =
        let k = retape_ok F law f y new z s nt' wr' fy (λ k. law.small_fits _ (new_good.small k)) fz b in
        second_ok x t z nt'' wr'' hn hw ok.given.in_x ok.given.in_t k.given.in_y (keeps_through F S K x y z ok.keeps k.keeps)

    same_pairs : pairs_of F S K y new ≡ pairs_of F S K x t
    same_pairs =
        pairs_mine F law S K y new new_good.small
        ∙ ap (λ (u : List ℕ). side (λ (p : Pair). p) (map (mine S) (parts F.ops K (at_wire y) (read K u) K.gates))) new_is
        ∙ ap (side (λ (p : Pair). p)) (L.same_pairs (group F law) S K t (draws_ok F law K t ok.given.in_t.small) (alike F law S K x y ok.given.in_x ok.given.in_y ok.keeps))
        ∙ sym (pairs_mine F law S K x t ok.given.in_t.small)

    -- the work room: plain values under the first inputs, under the second, then the site's pairs
    room_is : buffer 1 re_taping ≡ F.plain K x ++ F.plain K y ++ pairs_of F S K x t
    unfolding work_room_of both_plain_of RetapeOf
    room_is = ap (λ (z : After). get_or z.lent 1 []) (accepts_does re_taping a)

    -- which are those of a clean run on the first inputs and tapes,
    pub work_room_has_the_first_runs_pairs : (l outs tr st : List ℕ) → Accepts (RunOf F f x t l outs tr st) → Clean l
        → buffer 1 re_taping ≡ F.plain K x ++ F.plain K y ++ part_of S K (buffer 2 (RunOf F f x t l outs tr st))
    work_room_has_the_first_runs_pairs l outs tr st b h = room_is ∙ ap (λ (z : List ℕ). F.plain K x ++ F.plain K y ++ z) (sym (run_part F f x t l outs tr st b h S))

    -- and of one on the second inputs and the new tapes
    pub work_room_has_the_second_runs_pairs : (l outs tr st : List ℕ) → Accepts (RunOf F f y new l outs tr st) → Clean l
        → buffer 1 re_taping ≡ F.plain K x ++ F.plain K y ++ part_of S K (buffer 2 (RunOf F f y new l outs tr st))
    work_room_has_the_second_runs_pairs l outs tr st b h =
        room_is ∙ ap (λ (z : List ℕ). F.plain K x ++ F.plain K y ++ z) (sym same_pairs ∙ sym (run_part F f y new l outs tr st b h S))

  pub where_13_no_tapes_exist : (P : ℕ) → (does re_taping).answer ≡ refused 13 P → (v st u v' st' : List ℕ) → Fitting F u → Accepts (ViewOf F f x t s v st) → Accepts (ViewOf F f y u s v' st')
      → ¬ (buffer 0 (ViewOf F f y u s v' st') ≡ buffer 0 (ViewOf F f x t s v st))
  where_13_no_tapes_exist P e v st u v' st' fu b c h =
      let k = view_ok_of F law f x t s v st fx ft b in
      let m = view_ok_of F law f y u s v' st' fy fu c in
      (refused_13 F law f x t y s nt wr fx ft fy P e).unkept
      (view_keeps F law S K x y t u k.in_x m.in_x k.in_t m.in_t (sym (view_does F f y u s v' st' c) ∙ h ∙ view_does F f x t s v st b))

  -- all but 13, from a view of the first inputs
  given_by_view : (v st : List ℕ) → Accepts (ViewOf F f x t s v st) → Numbers F y K.ins → length nt ≡ tapes_want K → length wr ≡ 4 * wires K → RetapeGiven F f x t y s nt wr
  given_by_view v st a by hn hw =
      let k = view_ok_of F law f x t s v st fx ft a in
      record { sound = k.sound; in_x = k.in_x; in_t = k.in_t; site = k.site; nt_long = hn; wr_long = hw; in_y = by }

  pub kept_bits_are_accepted : (v st : List ℕ) → Accepts (ViewOf F f x t s v st) → Numbers F y K.ins → length nt ≡ tapes_want K → length wr ≡ 4 * wires K → Keeps F S K x y
      → Accepts re_taping
  kept_bits_are_accepted v st a by hn hw h = ok_retape F law f x t y s nt wr (record { given = given_by_view v st a by hn hw; keeps = h })

  pub changed_bits_are_refused_with_13 : (v st : List ℕ) → Accepts (ViewOf F f x t s v st) → Numbers F y K.ins → length nt ≡ tapes_want K → length wr ≡ 4 * wires K → ¬ Keeps F S K x y
      → (P : ℕ) × ((does re_taping).answer ≡ refused 13 P)
  changed_bits_are_refused_with_13 v st a by hn hw h = unkept_refused F law f x t y s nt wr (given_by_view v st a by hn hw) h

  pub accepted_keeps_own_and_opened_bits : Accepts re_taping → Keeps F S K x y
  accepted_keeps_own_and_opened_bits a = (retape_ok F law f x t y s nt wr fx ft fy a).keeps
