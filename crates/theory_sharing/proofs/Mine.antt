-- With the new draws site s holds the same parts of every wire.
--     share_itself, share_behind, share_before    what s holds of a deal of its own, of the next site's, of the one before
--     last_part                       the part that s lacks is the value less its two
--     shift_itself, -behind, -before  whose draws move
--     gate_mine_is                    the pair of s at a gate, from its pairs, the values and the draws
--     mine_same                       which do not tell the second inputs from the first
-- Assumes nothing.
use mathlib.Core.Path.{◌≡◌, refl, sym, ap, ap₂, ◌∙◌}
use mathlib.Core.List.{List, [], ◌∷◌, ◌++◌, map}
use Prim.Native.Nat.{ℕ, zero, suc}
use lib.ListN.{get_or, get_or-map}
use Rattle.theory_sharing.specs.Sites.{Site, s1, s2, s3, next, prev, of, is}
use Rattle.theory_sharing.specs.Circuit.{Gate, XOR, AND, OR, NOT, Circuit, Draws}
use Rattle.theory_sharing.specs.Values.{values}
use Rattle.theory_sharing.specs.Published.{Parts, no_parts, total, share, add_parts, flip_parts, three, mul_parts, gate_parts, ins_parts, parts}
use Rattle.theory_sharing.specs.Steps.{Pair, add_pair, local}
use Rattle.theory_sharing.specs.Retape.{mine, rest, next_product, flip_mine, next_shares, shift, retape}
use Rattle.theory_sharing.proofs.Group.{Group, turn, move, third_part}
use Rattle.theory_sharing.proofs.SiteLaws.{Seen, itself, behind, before, seen, by_site}
use Rattle.theory_sharing.proofs.Parts.{map_snoc, value, look, flip_total, AllDraws, Each, AllParts, flip_ok, parts_ok}

pub both : {a b a' b' : ℕ} → a ≡ a' → b ≡ b' → ◌≡◌ {A = Pair} (a, b) (a', b')
both p q = λ i. (p i, q i)

module _ (G : Group) where
  open G use {ops as R}
  open G.laws use {Ok, ok_zero, ok_add, ok_sub}
  open R use {add, sub, mul}

  module _ (d δ : ℕ) where
    pub shift_itself : (s : Site) → shift R s s d δ ≡ d
    unfolding shift is
    shift_itself = by_site (λ s. shift R s s d δ ≡ d) refl refl refl

    pub shift_behind : (s : Site) → shift R s (next s) d δ ≡ add d δ
    unfolding shift is
    shift_behind = by_site (λ s. shift R s (next s) d δ ≡ add d δ) refl refl refl

    pub shift_before : (s : Site) → shift R s (prev s) d δ ≡ d
    unfolding shift is
    shift_before = by_site (λ s. shift R s (prev s) d δ ≡ d) refl refl refl

  -- what s holds of a deal
  pub share_itself : (s : Site) (v a b : ℕ) → mine s (share R s v a b) ≡ (rest R v a b, a)
  share_itself s v a b = by_site (λ s. mine s (share R s v a b) ≡ (rest R v a b, a)) refl refl refl s

  pub share_behind : (s : Site) (v a b : ℕ) → mine s (share R (next s) v a b) ≡ (b, rest R v a b)
  share_behind s v a b = by_site (λ s. mine s (share R (next s) v a b) ≡ (b, rest R v a b)) refl refl refl s

  pub share_before : (s : Site) (v a b : ℕ) → mine s (share R (prev s) v a b) ≡ (a, b)
  share_before s v a b = by_site (λ s. mine s (share R (prev s) v a b) ≡ (a, b)) refl refl refl s

  mine_add : (s : Site) (P Q : Parts) → mine s (add_parts R P Q) ≡ add_pair R (mine s P) (mine s Q)
  mine_add s P Q = by_site (λ s. mine s (add_parts R P Q) ≡ add_pair R (mine s P) (mine s Q)) refl refl refl s

  pub mine_flip : (s : Site) (P : Parts) → mine s (flip_parts R P) ≡ flip_mine R s (mine s P)
  mine_flip s P = by_site (λ s. mine s (flip_parts R P) ≡ flip_mine R s (mine s P)) refl refl refl s

  pub last_part : (s : Site) (P : Parts) → Each Ok P → rest R (total R P) (of P s) (of P (next s)) ≡ of P (prev s)
  last_part s1 P h = third_part G P.at1 P.at2 P.at3 h.in3
  last_part s2 P h = ap (λ (z : ℕ). rest R z P.at2 P.at3) (turn G P.at1 P.at2 P.at3) ∙ third_part G P.at2 P.at3 P.at1 h.in1
  last_part s3 P h = ap (λ (z : ℕ). rest R z P.at3 P.at1) (sym (turn G P.at3 P.at1 P.at2)) ∙ third_part G P.at3 P.at1 P.at2 h.in2

  -- a product's pair at s, from s's pairs, the values, the draws
  unfoldable pub product_mine : Site → (Site → ℕ) → (Site → ℕ) → Pair → ℕ → Pair → ℕ → Pair
  product_mine s a b p u q v = (
    add (rest R (local R p q) (a s) (b s)) (add (b (next s)) (a (prev s))),
    add (a s) (add (rest R (next_product R p u q v) (a (next s)) (b (next s))) (b (prev s))),
  )

  mine_mul : (s : Site) (a b : Site → ℕ) (P Q : Parts) → Each Ok P → Each Ok Q
      → mine s (mul_parts R a b P Q) ≡ product_mine s a b (mine s P) (total R P) (mine s Q) (total R Q)
  unfolding mul_parts product_mine
  mine_mul s a b P Q hP hQ = rw (last_part s P hP, last_part s Q hQ) (go s)
    where
      go : (s : Site) → mine s (mul_parts R a b P Q)
          ≡ (
            add (rest R (local R (mine s P) (mine s Q)) (a s) (b s)) (add (b (next s)) (a (prev s))),
            add (a s) (add (rest R (three R (of P (next s)) (of P (prev s)) (of Q (next s)) (of Q (prev s))) (a (next s)) (b (next s))) (b (prev s))),
          )
      go s1 = refl
      go s2 = both (turn G _ _ _) (turn G _ _ _)
      go s3 = both (sym (turn G _ _ _)) (sym (turn G _ _ _))

  -- s's pair of a gate's wire, from s's pairs and the values
  unfoldable pub gate_mine : Site → (Site → ℕ) → (Site → ℕ) → Gate → List Pair → List ℕ → Pair
  gate_mine s a b (XOR i j) ms vs = add_pair R (get_or ms i (0, 0)) (get_or ms j (0, 0))
  gate_mine s a b (AND i j) ms vs = product_mine s a b (get_or ms i (0, 0)) (get_or vs i 0) (get_or ms j (0, 0)) (get_or vs j 0)
  gate_mine s a b (OR i j) ms vs =
      flip_mine R s (product_mine s a b (flip_mine R s (get_or ms i (0, 0))) (add (get_or vs i 0) 1) (flip_mine R s (get_or ms j (0, 0))) (add (get_or vs j 0) 1))
  gate_mine s a b (NOT i) ms vs = flip_mine R s (get_or ms i (0, 0))

  pub look_mine : (s : Site) (ps : List Parts) (w : ℕ) → mine s (get_or ps w no_parts) ≡ get_or (map (mine s) ps) w (0, 0)
  look_mine s1 ps w = sym (get_or-map (mine s1) ps w no_parts)
  look_mine s2 ps w = sym (get_or-map (mine s2) ps w no_parts)
  look_mine s3 ps w = sym (get_or-map (mine s3) ps w no_parts)

  pub gate_mine_is : (s : Site) (a b : Site → ℕ) (k : Gate) (ps : List Parts) → AllParts Ok ps
      → mine s (gate_parts R a b k ps) ≡ gate_mine s a b k (map (mine s) ps) (map (total R) ps)
  unfolding gate_parts gate_mine
  gate_mine_is s a b (XOR i j) ps h = mine_add s _ _ ∙ ap₂ (add_pair R) (look_mine s ps i) (look_mine s ps j)
  gate_mine_is s a b (AND i j) ps h =
      mine_mul s a b (get_or ps i no_parts) (get_or ps j no_parts) (h i) (h j)
      ∙ rw (look_mine s ps i, look_mine s ps j, look G ps i, look G ps j)
  gate_mine_is s a b (OR i j) ps h =
      mine_flip s _ ∙ ap (flip_mine R s)
      (mine_mul s a b (flip_parts R (get_or ps i no_parts)) (flip_parts R (get_or ps j no_parts)) (flip_ok G _ (h i)) (flip_ok G _ (h j))
      ∙ rw (
        mine_flip s (get_or ps i no_parts),
        mine_flip s (get_or ps j no_parts),
        flip_total G (get_or ps i no_parts),
        flip_total G (get_or ps j no_parts),
        look_mine s ps i,
        look_mine s ps j,
        look G ps i,
        look G ps j,
      ))
  gate_mine_is s a b (NOT i) ps h = mine_flip s _ ∙ ap (flip_mine R s) (look_mine s ps i)

  product_same : (s : Site) (a a' b : Site → ℕ) (p q : Pair) (u v u' v' : ℕ)
      → a' s ≡ a s → a' (prev s) ≡ a (prev s) → a' (next s) ≡ add (a (next s)) (sub (next_product R p u' q v') (next_product R p u q v))
      → product_mine s a' b p u' q v' ≡ product_mine s a b p u q v
  unfolding product_mine
  product_same s a a' b p q u v u' v' e1 e2 e3 =
      rw (e1, e2, e3) (both refl
      (ap (λ (z : ℕ). add (a s) (add (sub z (b (next s))) (b (prev s))))
      (move G (next_product R p u q v) (next_product R p u' q v') (a (next s)) (ok_add _ _) (ok_add _ _))))

  module _ (s : Site) (a b : Site → ℕ) (k : Gate) (ms : List Pair) (vs vs' : List ℕ) where
    moved : Site → ℕ
    moved t = shift R s t (a t) (sub (next_shares R s k ms vs') (next_shares R s k ms vs))

  gate_same : (s : Site) (a b : Site → ℕ) (k : Gate) (ms : List Pair) (vs vs' : List ℕ)
      → gate_mine s (moved s a b k ms vs vs') b k ms vs' ≡ gate_mine s a b k ms vs
  unfolding gate_mine moved next_shares
  gate_same s a b (XOR i j) ms vs vs' = refl
  gate_same s a b (AND i j) ms vs vs' =
      product_same s a _ b (get_or ms i (0, 0)) (get_or ms j (0, 0)) (get_or vs i 0) (get_or vs j 0) (get_or vs' i 0) (get_or vs' j 0)
      (shift_itself _ _ s) (shift_before _ _ s) (shift_behind _ _ s)
  gate_same s a b (OR i j) ms vs vs' =
      ap (flip_mine R s) (product_same s a _ b (flip_mine R s (get_or ms i (0, 0))) (flip_mine R s (get_or ms j (0, 0)))
      (add (get_or vs i 0) 1) (add (get_or vs j 0) 1) (add (get_or vs' i 0) 1) (add (get_or vs' j 0) 1)
      (shift_itself _ _ s) (shift_before _ _ s) (shift_behind _ _ s))
  gate_same s a b (NOT i) ms vs vs' = refl

  pub input_same : (s t : Site) → Seen s t → (v v' a b : ℕ) → Ok v → Ok v' → (t ≡ s → v' ≡ v)
      → mine s (share R t v' (shift R s t a (sub v' v)) b) ≡ mine s (share R t v a b)
  input_same s t itself v v' a b h h' e =
      share_itself s v' _ b
      ∙ ap₂ (λ u d. (rest R u d b, d)) (e refl) (shift_itself a _ s)
      ∙ sym (share_itself s v a b)
  input_same s t behind v v' a b h h' e =
      share_behind s v' _ b
      ∙ both refl (ap (λ (d : ℕ). rest R v' d b) (shift_behind a _ s) ∙ ap (λ (z : ℕ). sub z b) (move G v v' a h h'))
      ∙ sym (share_behind s v a b)
  input_same s t before v v' a b h h' e =
      share_before s v' _ b ∙ both (shift_before a _ s) refl ∙ sym (share_before s v a b)

  shift_ok : (s t : Site) (d δ : ℕ) → Ok d → Ok (shift R s t d δ)
  shift_ok s t d δ h = go t (seen s t)
    where
      go : (t : Site) → Seen s t → Ok (shift R s t d δ)
      go t itself = rw (shift_itself d δ s) h
      go t behind = rw (shift_behind d δ s) (ok_add d δ)
      go t before = rw (shift_before d δ s) h

  module _ (s : Site) (C : Circuit) (x x' : ℕ → ℕ) (T : Draws) (ok : AllDraws Ok T)
      (okx : (i : ℕ) → Ok (x i)) (okx' : (i : ℕ) → Ok (x' i)) (own : (i : ℕ) → C.owner i ≡ s → x' i ≡ x i) where
    ins_same : (i : ℕ) → map (mine s) (ins_parts R C x' (retape R s C x x' T) i) ≡ map (mine s) (ins_parts R C x T i)
    unfolding ins_parts retape
    ins_same zero = refl
    ins_same (suc i) =
        map_snoc (mine s) (ins_parts R C x' (retape R s C x x' T) i) _
        ∙ ap₂ (λ l v. l ++ (v ∷ [])) (ins_same i)
        (input_same s (C.owner i) (seen s (C.owner i)) (x i) (x' i) (T.in1 i) (T.in2 i) (okx i) (okx' i) (own i))
        ∙ sym (map_snoc (mine s) (ins_parts R C x T i) _)

    pub retape_ok : AllDraws Ok (retape R s C x x' T)
    unfolding retape
    retape_ok = record {
      of_in1 = λ i. shift_ok s (C.owner i) (T.in1 i) _ (ok.of_in1 i);
      of_in2 = ok.of_in2;
      of_g1 = λ g t. shift_ok s t (T.g1 g t) _ (ok.of_g1 g t);
      of_g2 = ok.of_g2;
    }

    step : (g : ℕ) → map (mine s) (parts R C x' (retape R s C x x' T) g) ≡ map (mine s) (parts R C x T g)
        → mine s (gate_parts R ((retape R s C x x' T).g1 g) ((retape R s C x x' T).g2 g) (C.gate g) (parts R C x' (retape R s C x x' T) g))
        ≡ mine s (gate_parts R (T.g1 g) (T.g2 g) (C.gate g) (parts R C x T g))
    unfolding retape moved
    step g ih =
        gate_mine_is s _ _ (C.gate g) (parts R C x' (retape R s C x x' T) g) (parts_ok G C x' (retape R s C x x' T) retape_ok g)
        ∙ ap₂ (gate_mine s _ _ (C.gate g)) ih (value G C x' (retape R s C x x' T) okx' g)
        ∙ gate_same s (T.g1 g) (T.g2 g) (C.gate g) (map (mine s) (parts R C x T g)) (values R C x g) (values R C x' g)
        ∙ ap (gate_mine s (T.g1 g) (T.g2 g) (C.gate g) (map (mine s) (parts R C x T g))) (sym (value G C x T okx g))
        ∙ sym (gate_mine_is s (T.g1 g) (T.g2 g) (C.gate g) (parts R C x T g) (parts_ok G C x T ok g))

    -- site s holds the same parts of every wire
    pub mine_same : (g : ℕ) → map (mine s) (parts R C x' (retape R s C x x' T) g) ≡ map (mine s) (parts R C x T g)
    unfolding parts
    mine_same zero = ins_same C.ins
    mine_same (suc g) =
        map_snoc (mine s) (parts R C x' (retape R s C x x' T) g) _
        ∙ ap₂ (λ l v. l ++ (v ∷ [])) (mine_same g) (step g (mine_same g))
        ∙ sym (map_snoc (mine s) (parts R C x T g) _)
