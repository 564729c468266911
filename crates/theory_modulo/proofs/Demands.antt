-- Sentences of all three demands for numbers modulo m, by the laws that bits have them by. Below m l: what the type of a slice of such numbers
-- would say. What is not here is one line each from theory_calls' Demand1.antt to Figures.antt.
-- Assumes nothing.
use mathlib.Core.Path.{◌≡◌}
use mathlib.Core.Logic.{◌↔◌}
use mathlib.Core.List.{List, [], map}
use Prim.Native.Nat.{ℕ, ◌<◌}
use lib.ListN.{length, get_or}
use Rattle.theory_sharing.specs.Circuit.{Circuit}
use Rattle.theory_sharing.specs.Published.{parts, sent_bits}
use Rattle.theory_sharing.specs.Steps.{hold}
use Rattle.theory_sharing.specs.Tapes.{read}
use Rattle.theory_sharing.specs.Store.{store}
use Rattle.theory_calls.specs.Answer.{good, abort}
use Rattle.theory_calls.specs.Calls.{Call, RunOf, ViewOf, RetapeOf, does, Accepts, buffer, at_wire}
use Rattle.theory_calls.specs.Statements.{Family, circuit_with, Clean, StopsAt, opened_plain}
use Rattle.theory_calls.proofs.Tidy.{Tidy, run_tidy}
use Rattle.theory_calls.proofs.Demand2 as D2
use Rattle.theory_calls.proofs.Demand3 as D3
use Rattle.theory_modulo.specs.Modulo.{modulo, modulo_family}
use Rattle.theory_modulo.proofs.FamilyLaws.{modulo_lawful}

abbrev F : ℕ → Family
F = modulo_family

abbrev pub Below : ℕ → List ℕ → Type 0
Below m l = (k : ℕ) → get_or l k 0 < m

module _ (m : ℕ) (h : 1 < m) (f x t l outs tr st : List ℕ) (ux : Below m x) (ut : Below m t) (ul : Below m l) (accepted : Accepts (RunOf (F m) f x t l outs tr st)) where
  abbrev the_run : Call
  the_run = RunOf (F m) f x t l outs tr st

  abbrev C : Circuit
  C = circuit_with (F m) f

  -- demand 1: no refusal changes a buffer, and none changes its length
  pub run_is_tidy : Tidy the_run
  run_is_tidy = run_tidy (F m) (modulo_lawful m h) f x t l outs tr st ux ut ul

  pub clean_opens_plain : Clean l → ((does the_run).answer ≡ good []) × (buffer 0 the_run ≡ opened_plain (F m) C x C.outs)
  clean_opens_plain = D2.clean_opens_plain (F m) (modulo_lawful m h) f x t l outs tr st ux ut ul accepted

  pub clean_store_is_published : Clean l → buffer 2 the_run ≡ store (map hold (parts (modulo m) C (at_wire x) (read C t) C.gates))
  clean_store_is_published = D2.clean_store_is_published (F m) (modulo_lawful m h) f x t l outs tr st ux ut ul accepted

  pub clean_transcript_is_published : Clean l → buffer 1 the_run ≡ sent_bits (modulo m) C (at_wire x) (read C t) C.outs
  clean_transcript_is_published = D2.clean_transcript_is_published (F m) (modulo_lawful m h) f x t l outs tr st ux ut ul accepted

  pub stops_at_the_first_unlike_copies : (o : ℕ) → ((m : ℕ) × ((does the_run).answer ≡ abort o m)) ↔ StopsAt (F m) f x t l o
  stops_at_the_first_unlike_copies = D2.stops_at_the_first_unlike_copies (F m) (modulo_lawful m h) f x t l outs tr st ux ut ul accepted

module _ (m : ℕ) (h : 1 < m) (f x t y : List ℕ) (s : ℕ) (nt wr : List ℕ) (ux : Below m x) (ut : Below m t) (uy : Below m y) where
  abbrev re_taping : Call
  re_taping = RetapeOf (F m) f x t y s nt wr

  abbrev new : List ℕ
  new = buffer 0 re_taping

  pub new_tapes_give_the_same_view : Accepts re_taping → (v st : List ℕ) → Accepts (ViewOf (F m) f x t s v st)
      → (v' st' : List ℕ) → length v' ≡ length v → length st' ≡ length st
      → let again = ViewOf (F m) f y new s v' st' in Accepts again × (buffer 0 again ≡ buffer 0 (ViewOf (F m) f x t s v st))
  new_tapes_give_the_same_view = D3.new_tapes_give_the_same_view (F m) (modulo_lawful m h) f x t y s nt wr ux ut uy

  pub no_other_tapes_do : Accepts re_taping → (v st : List ℕ) → Accepts (ViewOf (F m) f x t s v st)
      → (u v' st' : List ℕ) → Below m u → Accepts (ViewOf (F m) f y u s v' st')
      → buffer 0 (ViewOf (F m) f y u s v' st') ≡ buffer 0 (ViewOf (F m) f x t s v st) → u ≡ new
  no_other_tapes_do = D3.no_other_tapes_do (F m) (modulo_lawful m h) f x t y s nt wr ux ut uy

  pub going_back_returns_the_first_tapes : Accepts re_taping → (nt' wr' : List ℕ) → length nt' ≡ length nt → length wr' ≡ length wr
      → let back = RetapeOf (F m) f y new x s nt' wr' in Accepts back × (buffer 0 back ≡ t)
  going_back_returns_the_first_tapes = D3.going_back_returns_the_first_tapes (F m) (modulo_lawful m h) f x t y s nt wr ux ut uy
