-- The published parts: their sum is the value, and every one of them stands for itself.
--     draws_become_parts    01, step 1: which part each draw becomes
--     value         the parts of every wire add up to its value
--     look          a wire's sum, looked up
--     parts_ok      every part is Ok;  parts_in: and stays in a closed set
-- Assumes nothing.
use mathlib.Core.Path.{◌≡◌, refl, sym, ap, ap₂, ◌∙◌}
use mathlib.Core.List.{List, [], ◌∷◌, ◌++◌, map}
use Prim.Native.Nat.{ℕ, zero, suc}
use lib.ListN.{get_or, get_or-map}
use Rattle.theory_sharing.specs.Ops.{Ops}
use Rattle.theory_sharing.specs.Sites.{Site, s1, s2, s3, next, of}
use Rattle.theory_sharing.specs.Circuit.{Gate, XOR, AND, OR, NOT, Circuit, Draws}
use Rattle.theory_sharing.specs.Values.{value_gate, value_inputs, values}
use Rattle.theory_sharing.specs.Published.{Parts, no_parts, total, share, add_parts, flip_parts, three, mul_parts, gate_parts, ins_parts, parts}
use Rattle.theory_sharing.proofs.Group.{Group, Closed, nine, sums, turn, deal_sum}

-- 01, step 1: "two tape bits become parts s+1 and s+2; part s is x xor both."
pub draws_become_parts : (R : Ops) (s : Site) (v a b : ℕ) → let P = share R s v a b in
    (of P (next s) ≡ a) × (of P (next (next s)) ≡ b) × (of P s ≡ R.sub (R.sub v a) b)
draws_become_parts R s1 v a b = (refl, refl, refl)
draws_become_parts R s2 v a b = (refl, refl, refl)
draws_become_parts R s3 v a b = (refl, refl, refl)

pub map_snoc : {A B : Type 0} (f : A → B) (l : List A) (a : A) → map f (l ++ (a ∷ [])) ≡ map f l ++ (f a ∷ [])
map_snoc f [] a = refl
map_snoc f (b ∷ l) a = ap (λ z. f b ∷ z) (map_snoc f l a)

-- what holds of every entry, and of the default, holds of every entry when one more is put behind
pub snoc_all : {A : Type 0} (P : A → Type 0) (d : A) → P d → (l : List A) (a : A) → ((w : ℕ) → P (get_or l w d)) → P a → (w : ℕ) → P (get_or (l ++ (a ∷ [])) w d)
snoc_all P d hd [] a h k zero = k
snoc_all P d hd [] a h k (suc w) = hd
snoc_all P d hd (b ∷ l) a h k zero = h 0
snoc_all P d hd (b ∷ l) a h k (suc w) = snoc_all P d hd l a (λ v. h (suc v)) k w

-- a fact of every draw
pub record AllDraws (P : ℕ → Type 0) (T : Draws) : Type 0 where
  pub of_in1 : (i : ℕ) → P (T.in1 i)
  pub of_in2 : (i : ℕ) → P (T.in2 i)
  pub of_g1 : (g : ℕ) (s : Site) → P (T.g1 g s)
  pub of_g2 : (g : ℕ) (s : Site) → P (T.g2 g s)

module _ (G : Group) where
  open G use {ops as R}
  open G.laws use {Ok, ok_zero, ok_add, ok_sub, add_zero}
  open R use {add, sub, mul}

  share_total : (s : Site) (v a b : ℕ) → Ok v → total R (share R s v a b) ≡ v
  share_total s1 v a b h = deal_sum G v a b h
  share_total s2 v a b h = turn G b _ a ∙ deal_sum G v a b h
  share_total s3 v a b h = turn G a b _ ∙ turn G b _ a ∙ deal_sum G v a b h

  add_total : (P Q : Parts) → total R (add_parts R P Q) ≡ add (total R P) (total R Q)
  add_total P Q = simp sums

  pub flip_total : (P : Parts) → total R (flip_parts R P) ≡ add (total R P) 1
  flip_total P = simp sums

  mul_total : (a b : Site → ℕ) (P Q : Parts) → total R (mul_parts R a b P Q) ≡ mul (total R P) (total R Q)
  unfolding mul_parts
  mul_total a b P Q =
      add_total _ _ ∙ ap₂ add (share_total s1 _ (a s1) (b s1) (ok_add _ _))
      (add_total _ _ ∙ ap₂ add (share_total s2 _ (a s2) (b s2) (ok_add _ _)) (share_total s3 _ (a s3) (b s3) (ok_add _ _)))
      ∙ nine G P.at1 P.at2 P.at3 Q.at1 Q.at2 Q.at3

  -- the default parts stand for 0
  none_total : total R no_parts ≡ 0
  none_total = ap (λ (z : ℕ). add 0 z) (add_zero 0 ok_zero) ∙ add_zero 0 ok_zero

  pub look : (ps : List Parts) (w : ℕ) → total R (get_or ps w no_parts) ≡ get_or (map (total R) ps) w 0
  look ps w = sym (ap (λ (z : ℕ). get_or (map (total R) ps) w z) (sym none_total) ∙ get_or-map (total R) ps w no_parts)

  gate_total : (a b : Site → ℕ) (k : Gate) (ps : List Parts) → total R (gate_parts R a b k ps) ≡ value_gate R k (map (total R) ps)
  unfolding gate_parts value_gate
  gate_total a b (XOR i j) ps = add_total (get_or ps i no_parts) (get_or ps j no_parts) ∙ ap₂ add (look ps i) (look ps j)
  gate_total a b (AND i j) ps = mul_total a b (get_or ps i no_parts) (get_or ps j no_parts) ∙ ap₂ mul (look ps i) (look ps j)
  gate_total a b (OR i j) ps =
      flip_total (mul_parts R a b _ _)
      ∙ ap (λ (z : ℕ). add z 1)
      (mul_total a b (flip_parts R (get_or ps i no_parts)) (flip_parts R (get_or ps j no_parts))
      ∙ ap₂ mul (flip_total (get_or ps i no_parts) ∙ ap (λ (z : ℕ). add z 1) (look ps i)) (flip_total (get_or ps j no_parts) ∙ ap (λ (z : ℕ). add z 1) (look ps j)))
  gate_total a b (NOT i) ps = flip_total (get_or ps i no_parts) ∙ ap (λ (z : ℕ). add z 1) (look ps i)

  module _ (C : Circuit) (x : ℕ → ℕ) (T : Draws) (okx : (i : ℕ) → Ok (x i)) where
    ins_value : (i : ℕ) → map (total R) (ins_parts R C x T i) ≡ value_inputs R x i
    unfolding ins_parts value_inputs
    ins_value zero = refl
    ins_value (suc i) =
        map_snoc (total R) (ins_parts R C x T i) _
        ∙ ap₂ (λ l v. l ++ (v ∷ [])) (ins_value i) (share_total (C.owner i) (x i) (T.in1 i) (T.in2 i) (okx i))

    -- each wire's parts sum to its value
    pub value : (g : ℕ) → map (total R) (parts R C x T g) ≡ values R C x g
    unfolding parts values
    value zero = ins_value C.ins
    value (suc g) =
        map_snoc (total R) (parts R C x T g) _
        ∙ ap₂ (λ l v. l ++ (v ∷ [])) (value g)
        (gate_total (T.g1 g) (T.g2 g) (C.gate g) (parts R C x T g) ∙ ap (λ l. value_gate R (C.gate g) l) (value g))

    pub total_at : (w : ℕ) → total R (get_or (parts R C x T C.gates) w no_parts) ≡ get_or (values R C x C.gates) w 0
    total_at w = look (parts R C x T C.gates) w ∙ ap (λ l. get_or l w 0) (value C.gates)

-- a fact of each of three parts
pub record Each (P : ℕ → Type 0) (Q : Parts) : Type 0 where
  pub in1 : P Q.at1
  pub in2 : P Q.at2
  pub in3 : P Q.at3

abbrev pub AllParts : (ℕ → Type 0) → List Parts → Type 0
AllParts P ps = (w : ℕ) → Each P (get_or ps w no_parts)

module _ (P : ℕ → Type 0) where
  pub share_each : (R : Ops) (s : Site) (v a b : ℕ) → P (R.sub (R.sub v a) b) → P a → P b → Each P (share R s v a b)
  share_each R s1 v a b hr ha hb = record { in1 = hr; in2 = ha; in3 = hb }
  share_each R s2 v a b hr ha hb = record { in1 = hb; in2 = hr; in3 = ha }
  share_each R s3 v a b hr ha hb = record { in1 = ha; in2 = hb; in3 = hr }

module _ (G : Group) where
  open G use {ops as R}
  open G.laws use {Ok, ok_zero, ok_add, ok_sub}

  pub flip_ok : (P : Parts) → Each Ok P → Each Ok (flip_parts R P)
  flip_ok P h = record { in1 = ok_add _ _; in2 = h.in2; in3 = h.in3 }

  add_ok : (P Q : Parts) → Each Ok (add_parts R P Q)
  add_ok P Q = record { in1 = ok_add _ _; in2 = ok_add _ _; in3 = ok_add _ _ }

  gate_ok : (a b : Site → ℕ) (k : Gate) (ps : List Parts) → AllParts Ok ps → Each Ok (gate_parts R a b k ps)
  unfolding gate_parts mul_parts
  gate_ok a b (XOR i j) ps h = add_ok _ _
  gate_ok a b (AND i j) ps h = add_ok _ _
  gate_ok a b (OR i j) ps h = flip_ok _ (add_ok _ _)
  gate_ok a b (NOT i) ps h = flip_ok _ (h i)

  none_ok : Each Ok no_parts
  none_ok = record { in1 = ok_zero; in2 = ok_zero; in3 = ok_zero }

  module _ (C : Circuit) (x : ℕ → ℕ) (T : Draws) (ok : AllDraws Ok T) where
    ins_ok : (i : ℕ) → AllParts Ok (ins_parts R C x T i)
    unfolding ins_parts
    ins_ok zero w = none_ok
    ins_ok (suc i) w =
        snoc_all (Each Ok) no_parts none_ok (ins_parts R C x T i) _ (ins_ok i)
        (share_each Ok R (C.owner i) (x i) _ _ (ok_sub _ _) (ok.of_in1 i) (ok.of_in2 i)) w

    pub parts_ok : (g : ℕ) → AllParts Ok (parts R C x T g)
    unfolding parts
    parts_ok zero w = ins_ok C.ins w
    parts_ok (suc g) w =
        snoc_all (Each Ok) no_parts none_ok (parts R C x T g) _ (parts_ok g) (gate_ok (T.g1 g) (T.g2 g) (C.gate g) _ (parts_ok g)) w

-- the same for a closed set, which must hold the inputs too
module _ (R : Ops) {In : ℕ → Type 0} (K : Closed R In) where
  open K use {in_zero, in_one, in_add, in_sub, in_mul}

  pub three_in : (a b c d : ℕ) → In a → In b → In c → In d → In (three R a b c d)
  three_in a b c d ha hb hc hd = in_add _ _ (in_add _ _ (in_mul _ _ ha hc) (in_mul _ _ ha hd)) (in_mul _ _ hb hc)

  pub flip_in : (P : Parts) → Each In P → Each In (flip_parts R P)
  flip_in P h = record { in1 = in_add _ _ h.in1 in_one; in2 = h.in2; in3 = h.in3 }

  pub add_in : (P Q : Parts) → Each In P → Each In Q → Each In (add_parts R P Q)
  add_in P Q h k = record { in1 = in_add _ _ h.in1 k.in1; in2 = in_add _ _ h.in2 k.in2; in3 = in_add _ _ h.in3 k.in3 }

  share_in : (s : Site) (v a b : ℕ) → In v → In a → In b → Each In (share R s v a b)
  share_in s v a b hv ha hb = share_each In R s v a b (in_sub _ _ (in_sub _ _ hv ha) hb) ha hb

  mul_in : (a b : Site → ℕ) → ((s : Site) → In (a s)) → ((s : Site) → In (b s)) → (P Q : Parts) → Each In P → Each In Q → Each In (mul_parts R a b P Q)
  unfolding mul_parts
  mul_in a b ha hb P Q h k =
      add_in _ _ (share_in s1 _ _ _ (three_in _ _ _ _ h.in1 h.in2 k.in1 k.in2) (ha s1) (hb s1))
      (add_in _ _ (share_in s2 _ _ _ (three_in _ _ _ _ h.in2 h.in3 k.in2 k.in3) (ha s2) (hb s2))
      (share_in s3 _ _ _ (three_in _ _ _ _ h.in3 h.in1 k.in3 k.in1) (ha s3) (hb s3)))

  gate_in : (a b : Site → ℕ) → ((s : Site) → In (a s)) → ((s : Site) → In (b s)) → (k : Gate) (ps : List Parts) → AllParts In ps → Each In (gate_parts R a b k ps)
  unfolding gate_parts
  gate_in a b ha hb (XOR i j) ps h = add_in _ _ (h i) (h j)
  gate_in a b ha hb (AND i j) ps h = mul_in a b ha hb _ _ (h i) (h j)
  gate_in a b ha hb (OR i j) ps h = flip_in _ (mul_in a b ha hb _ _ (flip_in _ (h i)) (flip_in _ (h j)))
  gate_in a b ha hb (NOT i) ps h = flip_in _ (h i)

  none_in : Each In no_parts
  none_in = record { in1 = in_zero; in2 = in_zero; in3 = in_zero }

  module _ (C : Circuit) (x : ℕ → ℕ) (T : Draws) (hx : (i : ℕ) → In (x i)) (hT : AllDraws In T) where
    ins_in : (i : ℕ) → AllParts In (ins_parts R C x T i)
    unfolding ins_parts
    ins_in zero w = none_in
    ins_in (suc i) w =
        snoc_all (Each In) no_parts none_in (ins_parts R C x T i) _ (ins_in i) (share_in (C.owner i) (x i) _ _ (hx i) (hT.of_in1 i) (hT.of_in2 i)) w

    pub parts_in : (g : ℕ) → AllParts In (parts R C x T g)
    unfolding parts
    parts_in zero w = ins_in C.ins w
    parts_in (suc g) w =
        snoc_all (Each In) no_parts none_in (parts R C x T g) _ (parts_in g)
        (gate_in (T.g1 g) (T.g2 g) (hT.of_g1 g) (hT.of_g2 g) (C.gate g) _ (parts_in g)) w

  value_in : (k : Gate) (vs : List ℕ) → ((w : ℕ) → In (get_or vs w 0)) → In (value_gate R k vs)
  unfolding value_gate
  value_in (XOR i j) vs h = in_add _ _ (h i) (h j)
  value_in (AND i j) vs h = in_mul _ _ (h i) (h j)
  value_in (OR i j) vs h = in_add _ _ (in_mul _ _ (in_add _ _ (h i) in_one) (in_add _ _ (h j) in_one)) in_one
  value_in (NOT i) vs h = in_add _ _ (h i) in_one

  module _ (C : Circuit) (x : ℕ → ℕ) (hx : (i : ℕ) → In (x i)) where
    inputs_in : (i w : ℕ) → In (get_or (value_inputs R x i) w 0)
    unfolding value_inputs
    inputs_in zero w = in_zero
    inputs_in (suc i) w = snoc_all In 0 in_zero (value_inputs R x i) (x i) (inputs_in i) (hx i) w

    pub values_in : (g w : ℕ) → In (get_or (values R C x g) w 0)
    unfolding values
    values_in zero w = inputs_in C.ins w
    values_in (suc g) w = snoc_all In 0 in_zero (values R C x g) _ (values_in g) (value_in (C.gate g) (values R C x g) (values_in g)) w
