-- The routes of a run, and what of its bits reaches a site.
--     routes_length    a route for each bit: 4I + 12A + 6n
--     pick_all         of the published bits, those that reach s are what the line brings to it
--     reaches        the same of the run's own transcript on a clean line
--     copies_reach     the two copies that a site gets at an opening are those of the six bits that reach it
--     sent_by_its_sender    every bit of a deal, of a gate and of an opening is what its route's sender sends, on any line
--     next_takes, prev_takes, mix_takes    what a site takes from a deal is what of the delivered bits reaches it, on any line
--     ins_got_length, gates_got_length, got_length    a site gets 2 bits of every other's input, 4 of every AND and OR, 2 of every opening
-- Assumes nothing.
use mathlib.Core.Path.{◌≡◌, refl, sym, ap, ap₂, ◌∙◌}
use mathlib.Core.Bool.{cond}
use mathlib.Core.List.{List, [], ◌∷◌, ◌++◌, append_assoc}
use Prim.Native.Nat.{ℕ, zero, suc, ◌+◌, ◌*◌}
use native.Mathlib.Omega.{arith}
use lib.ListN.{length, length-append}
use Rattle.theory_sharing.specs.Ops.{Ops}
use Rattle.theory_sharing.specs.Sites.{Site, s1, s2, s3, next, prev, is, if_own, Trio, of}
use Rattle.theory_sharing.specs.Circuit.{Gate, XOR, AND, OR, NOT, Circuit, Draws, no_errors, dealing, ands, owned, all_ands, all_owned}
use Rattle.theory_sharing.specs.Order.{Route, deal_routes, gate_routes, open_routes, if_deals, ins_routes, gates_routes, routes, pick}
use Rattle.theory_sharing.specs.Published.{Parts, Deal, dealt, deal_bits, open_bits, share, product_of, parts, out_parts, gate_deal, ins_bits, gates_bits, sent_bits}
use Rattle.theory_sharing.specs.Steps.{Pair, Wire, copies, later, delivered, delivered3, to_next, to_prev, six}
use Rattle.theory_sharing.specs.Senders.{own_copy, opening_sends, deal_sends, along_line}
use Rattle.theory_sharing.specs.Retape.{mine}
use Rattle.theory_sharing.specs.Run.{opens_delivered}
use Rattle.theory_sharing.specs.Line.{at_gate, at_output}
use Rattle.theory_sharing.proofs.Group.{Group}
use Rattle.theory_sharing.proofs.SiteLaws.{by_site, Seen, itself, behind, before, seen, is_itself, is_behind, is_before}
use Rattle.theory_sharing.proofs.Parts.{AllDraws}
use Rattle.theory_sharing.proofs.Clean.{clean_sent}
use Rattle.theory_sharing.proofs.TapeLaws.{deals_many}
use Rattle.theory_sharing.proofs.Seen.{got, got_itself, got_behind, got_before, to_site3, ins_got, gates_got, all_got}

ins_many : (C : Circuit) (i : ℕ) → length (ins_routes C i) ≡ 4 * i
unfolding ins_routes
ins_many C zero = refl
ins_many C (suc i) = length-append (ins_routes C i) _ ∙ (let k = ins_many C i in omega arith)

gates_many : (C : Circuit) (g : ℕ) → length (gates_routes C g) ≡ at_gate C g
unfolding gates_routes ands at_gate
gates_many C zero = let k = ins_many C C.ins in omega arith
gates_many C (suc g) = length-append (gates_routes C g) _ ∙ (let k = gates_many C g in let q = deals_many (C.gate g) gate_routes in omega arith)

pub routes_length : (C : Circuit) (n : ℕ) → length (routes C n) ≡ at_output C n
unfolding routes at_output at_gate
routes_length C zero = let k = gates_many C C.gates in omega arith
routes_length C (suc n) = length-append (routes C n) _ ∙ (let k = routes_length C n in omega arith)

pub pick_append : (s : Site) (rs rs' : List Route) (bs bs' : List ℕ) → length rs ≡ length bs → pick s (rs ++ rs') (bs ++ bs') ≡ pick s rs bs ++ pick s rs' bs'
unfolding pick
pick_append s [] rs' [] bs' h = refl
pick_append s [] rs' (b ∷ bs) bs' h = absurd (omega arith)
pick_append s (r ∷ rs) rs' [] bs' h = absurd (omega arith)
pick_append s (r ∷ rs) rs' (b ∷ bs) bs' h =
    ap (λ l. if_own s r.1 (b ∷ []) ++ l) (pick_append s rs rs' bs bs' (omega arith)) ∙ sym (append_assoc (if_own s r.1 (b ∷ [])) _ _)

pick_deal : (s t : Site) (D : Deal) → pick s (deal_routes t) (deal_bits D) ≡ got s t (mine s (dealt t D))
unfolding pick got if_own is
pick_deal s1 s1 D = refl
pick_deal s1 s2 D = refl
pick_deal s1 s3 D = refl
pick_deal s2 s1 D = refl
pick_deal s2 s2 D = refl
pick_deal s2 s3 D = refl
pick_deal s3 s1 D = refl
pick_deal s3 s2 D = refl
pick_deal s3 s3 D = refl

pick_open : (s : Site) (P : Parts) → pick s open_routes (open_bits P) ≡ of P (prev s) ∷ of P (prev s) ∷ []
unfolding pick if_own is
pick_open s1 P = refl
pick_open s2 P = refl
pick_open s3 P = refl

pick_three : (s : Site) (D1 D2 D3 : Deal)
    → pick s gate_routes (deal_bits D1 ++ deal_bits D2 ++ deal_bits D3)
    ≡ got s s1 (mine s (dealt s1 D1)) ++ got s s2 (mine s (dealt s2 D2)) ++ got s s3 (mine s (dealt s3 D3))
unfolding pick if_own got is
pick_three s1 D1 D2 D3 = refl
pick_three s2 D1 D2 D3 = refl
pick_three s3 D1 D2 D3 = refl

pick_gate : (s : Site) (k : Gate) (D1 D2 D3 : Deal)
    → pick s (if_deals k gate_routes) (if_deals k (deal_bits D1 ++ deal_bits D2 ++ deal_bits D3))
    ≡ if_deals k (got s s1 (mine s (dealt s1 D1)) ++ got s s2 (mine s (dealt s2 D2)) ++ got s s3 (mine s (dealt s3 D3)))
unfolding if_deals pick
pick_gate s (XOR i j) D1 D2 D3 = refl
pick_gate s (AND i j) D1 D2 D3 = pick_three s D1 D2 D3
pick_gate s (OR i j) D1 D2 D3 = pick_three s D1 D2 D3
pick_gate s (NOT i) D1 D2 D3 = refl

module _ (R : Ops) (s : Site) (C : Circuit) (x : ℕ → ℕ) (T : Draws) where
  ins_length : (i : ℕ) → length (ins_bits R C x T i) ≡ 4 * i
  unfolding ins_bits
  ins_length zero = refl
  ins_length (suc i) = length-append (ins_bits R C x T i) _ ∙ (let k = ins_length i in omega arith)

  pick_ins : (i : ℕ) → pick s (ins_routes C i) (ins_bits R C x T i) ≡ ins_got R s C x T i
  unfolding ins_routes ins_bits ins_got pick
  pick_ins zero = refl
  pick_ins (suc i) = pick_append s (ins_routes C i) _ (ins_bits R C x T i) _ (ins_many C i ∙ sym (ins_length i)) ∙ ap₂ ◌++◌ (pick_ins i) (pick_deal s (C.owner i) _)

  gates_length : (g : ℕ) → length (gates_bits R C x T g) ≡ at_gate C g
  unfolding gates_bits ands at_gate
  gates_length zero = let k = ins_length C.ins in omega arith
  gates_length (suc g) =
      length-append (gates_bits R C x T g) _
      ∙ (let k = gates_length g in let q = deals_many (C.gate g) (deal_bits (gate_deal R C x T g s1) ++ deal_bits (gate_deal R C x T g s2) ++ deal_bits (gate_deal R C x T g s3)) in omega arith)

  pick_gates : (g : ℕ) → pick s (gates_routes C g) (gates_bits R C x T g) ≡ gates_got R s C x T g
  unfolding gates_routes gates_bits gates_got
  pick_gates zero = pick_ins C.ins
  pick_gates (suc g) =
      pick_append s (gates_routes C g) _ (gates_bits R C x T g) _ (gates_many C g ∙ sym (gates_length g)) ∙ ap₂ ◌++◌ (pick_gates g) (pick_gate s (C.gate g) _ _ _)

  pub bits_length : (n : ℕ) → length (sent_bits R C x T n) ≡ at_output C n
  unfolding sent_bits at_output at_gate
  bits_length zero = let k = gates_length C.gates in omega arith
  bits_length (suc n) = length-append (sent_bits R C x T n) _ ∙ (let k = bits_length n in omega arith)

  pub pick_all : (n : ℕ) → pick s (routes C n) (sent_bits R C x T n) ≡ all_got R s C x T n
  unfolding routes sent_bits all_got
  pick_all zero = pick_gates C.gates
  pick_all (suc o) =
      pick_append s (routes C o) _ (sent_bits R C x T o) _ (routes_length C o ∙ sym (bits_length o)) ∙ ap₂ ◌++◌ (pick_all o) (pick_open s _)

-- on a clean line, what of the run's own bits reaches s
pub reaches : (G : Group) (s : Site) (C : Circuit) (x : ℕ → ℕ) (T : Draws) (ok : AllDraws G.laws.Ok T) (n : ℕ)
    → pick s (routes C n) (opens_delivered G.ops C x T no_errors n) ≡ all_got G.ops s C x T n
reaches G s C x T ok n = ap (pick s (routes C n)) (clean_sent G C x T ok n) ∙ pick_all G.ops s C x T n

-- the two copies that a site gets at an opening are the bits of the six that reach it
pub copies_reach : (s : Site) (a b c d e f : ℕ) → let l : List ℕ = a ∷ b ∷ c ∷ d ∷ e ∷ f ∷ [] in pick s open_routes l ≡ (of (copies l) s).0 ∷ (of (copies l) s).1 ∷ []
unfolding pick if_own is copies
copies_reach s1 a b c d e f = refl
copies_reach s2 a b c d e f = refl
copies_reach s3 a b c d e f = refl

-- "senders go 1, 2, 3": the bits of a step are those that the senders of its routes send, each from what it dealt or holds itself
pub sent_by_its_sender : (R : Ops) (e : ℕ → ℕ)
    → ((s : Site) (D : Deal) → delivered R e D ≡ along_line R e (deal_sends (λ a. D) (deal_routes s)))
    × ((D : Trio Deal) → delivered3 R e D ≡ along_line R e (deal_sends (of D) gate_routes))
    × ((x : Wire) → six R e x ≡ along_line R e (opening_sends x open_routes))
unfolding delivered delivered3 six is own_copy opening_sends deal_sends along_line
sent_by_its_sender R e = (
  λ s D. by_site (λ s. delivered R e D ≡ along_line R e (deal_sends (λ a. D) (deal_routes s))) refl refl refl s,
  λ D. refl,
  λ x. refl,
)

-- "All sites use delivered bits": what a site takes from a deal is what of the delivered bits reaches it, on any line
abbrev pub two_of : Pair → List ℕ
two_of p = p.0 ∷ p.1 ∷ []

module _ (R : Ops) (e : ℕ → ℕ) where
  pub next_takes : (D : Deal) (s : Site) → pick (next s) (deal_routes s) (delivered R e D) ≡ two_of (to_next R e D)
  unfolding pick if_own is delivered
  next_takes D = by_site (λ s. pick (next s) (deal_routes s) (delivered R e D) ≡ two_of (to_next R e D)) refl refl refl

  pub prev_takes : (D : Deal) (s : Site) → pick (prev s) (deal_routes s) (delivered R e D) ≡ two_of (to_prev R e D)
  unfolding pick if_own is delivered
  prev_takes D = by_site (λ s. pick (prev s) (deal_routes s) (delivered R e D) ≡ two_of (to_prev R e D)) refl refl refl

  -- and of a gate's twelve bits: the site's own pair, and the two pairs that reach it, are what mix adds
  pub mix_takes : (D : Trio Deal)
      → (pick s1 gate_routes (delivered3 R e D) ≡ two_of (to_prev R (later e 4) D.at2) ++ two_of (to_next R (later e 8) D.at3))
      × (pick s2 gate_routes (delivered3 R e D) ≡ two_of (to_next R e D.at1) ++ two_of (to_prev R (later e 8) D.at3))
      × (pick s3 gate_routes (delivered3 R e D) ≡ two_of (to_prev R e D.at1) ++ two_of (to_next R (later e 4) D.at2))
  unfolding pick if_own is delivered delivered3
  mix_takes D = (refl, refl, refl)

-- lengths
got_two : (s t : Site) → Seen s t → (p : ℕ × ℕ) → length (got s t p) + 2 * cond (is s t) 1 0 ≡ 2
got_two s t itself p = ap₂ (λ (a b : ℕ). a + 2 * b) (ap length (got_itself s p)) (ap (λ c. cond c 1 0) (is_itself s))
got_two s t behind p = ap₂ (λ (a b : ℕ). a + 2 * b) (ap length (got_behind s p)) (ap (λ c. cond c 1 0) (is_behind s))
got_two s t before p = ap₂ (λ (a b : ℕ). a + 2 * b) (ap length (got_before s p)) (ap (λ c. cond c 1 0) (is_before s))

got_four : (R : Ops) (s : Site) (v a b : Site → ℕ) → length (to_site3 R s v a b) ≡ 4
unfolding got is
got_four R s1 v a b = refl
got_four R s2 v a b = refl
got_four R s3 v a b = refl

module _ (R : Ops) (s : Site) (C : Circuit) (x : ℕ → ℕ) (T : Draws) where
  pub ins_got_length : (i : ℕ) → length (ins_got R s C x T i) + 2 * owned C.owner s i ≡ 2 * i
  unfolding ins_got owned
  ins_got_length zero = refl
  ins_got_length (suc i) =
      let k = ins_got_length i in
      let q = got_two s (C.owner i) (seen s (C.owner i)) (mine s (share R (C.owner i) (x i) (T.in1 i) (T.in2 i))) in
      let l = length-append (ins_got R s C x T i) (got s (C.owner i) (mine s (share R (C.owner i) (x i) (T.in1 i) (T.in2 i)))) in
      omega arith

  pub gates_got_length : (g : ℕ) → length (gates_got R s C x T g) + 2 * all_owned C s ≡ 2 * C.ins + 4 * ands C.gate g
  unfolding gates_got ands
  gates_got_length zero = let k = ins_got_length C.ins in omega arith
  gates_got_length (suc g) =
      let m : List ℕ = to_site3 R s (λ t. product_of R t (C.gate g) (parts R C x T g)) (T.g1 g) (T.g2 g) in
      let k = gates_got_length g in
      let f : length m ≡ 4 = got_four R s (λ t. product_of R t (C.gate g) (parts R C x T g)) (T.g1 g) (T.g2 g) in
      let q : length (if_deals (C.gate g) m) ≡ 4 * dealing (C.gate g) = deals_many (C.gate g) m ∙ ap (λ (z : ℕ). dealing (C.gate g) * z) f ∙ omega arith in
      let l = length-append (gates_got R s C x T g) (if_deals (C.gate g) m) in
      omega arith

  pub got_length : (n : ℕ) → length (all_got R s C x T n) + 2 * all_owned C s ≡ 2 * C.ins + 4 * all_ands C + 2 * n
  unfolding all_got
  got_length zero = let k = gates_got_length C.gates in omega arith
  got_length (suc n) =
      let k = got_length n in
      let l = length-append (all_got R s C x T n) (of (out_parts R C x T n) (prev s) ∷ of (out_parts R C x T n) (prev s) ∷ []) in
      omega arith
