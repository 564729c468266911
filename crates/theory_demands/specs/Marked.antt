-- 01, "Marked examples": K1 to K12 as one list of rows, a call and what it answers and leaves.
--     K_file, K_with a b     "owners 1, 2; gate AND 0 1; output wire 2; 42 bytes, offsets 32, 34, 40"; the same with gate AND a b
--     K_tapes                "Tapes 1011, 0101, 10."
--     K_line ks              the line of 26 bytes with the bits ks set
--     untouched n                  n bytes that no call writes, lent before a call so that "unchanged" can be seen
--     rows                   the examples in order; proofs/Marked.antt computes them
use Rattle.std.specs.Prelude.{List, [], ◌∷◌, ◌++◌, ℕ, replicate, set}
use Rattle.theory_sharing.specs.Store.{fill}
use Rattle.theory_calls.specs.Answer.{Answer, good, abort, refused, After}
use Rattle.theory_calls.specs.Calls.{Call, Check, Traffic, Run, View, Retape, Listing}

pub record Row : Type 0 where
  pub call : Call
  pub wanted : After

abbrev pub K_with : ℕ → ℕ → List ℕ
K_with a b =
    (42 ∷ 0 ∷ 0 ∷ 0 ∷ 2 ∷ 0 ∷ 0 ∷ 0 ∷ 1 ∷ 0 ∷ 0 ∷ 0 ∷ 1 ∷ 0 ∷ 0 ∷ 0
    ∷ 32 ∷ 0 ∷ 0 ∷ 0 ∷ 34 ∷ 0 ∷ 0 ∷ 0 ∷ 40 ∷ 0 ∷ 0 ∷ 0 ∷ 0 ∷ 0 ∷ 0 ∷ 0 ∷ []) ++ (1 ∷ 2 ∷ 2 ∷ 0 ∷ a ∷ 0 ∷ b ∷ 0 ∷ 2 ∷ 0 ∷ [])

abbrev pub K_file : List ℕ
K_file = K_with 0 1

abbrev pub K_tapes : List ℕ
K_tapes = 1 ∷ 0 ∷ 1 ∷ 1 ∷ 0 ∷ 1 ∷ 0 ∷ 1 ∷ 1 ∷ 0 ∷ []

abbrev pub K_line : List ℕ → List ℕ
K_line [] = replicate 26 0
K_line (k ∷ ks) = set (K_line ks) k 1

abbrev pub untouched : ℕ → List ℕ
untouched n = replicate n 165

-- K's own run, with inputs 1 1 and a line
abbrev pub K_run : List ℕ → Call
K_run ks = Run K_file (1 ∷ 1 ∷ []) K_tapes (K_line ks) (untouched 3) (untouched 26) (untouched 18)

abbrev pub K_retape : ℕ → List ℕ → List ℕ → Call
K_retape s x y = Retape K_file x K_tapes y s (untouched 10) (untouched 12)

-- "Job K1 has 70 bytes: header 70, 16, 58, 60, the circuit below, inputs, tapes."
abbrev pub K_job : List ℕ
K_job = (70 ∷ 0 ∷ 0 ∷ 0 ∷ 16 ∷ 0 ∷ 0 ∷ 0 ∷ 58 ∷ 0 ∷ 0 ∷ 0 ∷ 60 ∷ 0 ∷ 0 ∷ 0 ∷ []) ++ K_file ++ (1 ∷ 1 ∷ []) ++ K_tapes

abbrev pub stopped_with : Answer → List (List ℕ) → After
stopped_with a l = record { answer = a; returned = []; lent = l }

abbrev pub good_with : List (List ℕ) → After
good_with l = stopped_with (good []) l

abbrev pub good_returns : List (List ℕ) → After
good_returns l = record { answer = good []; returned = l; lent = [] }

-- K2: "site 1 01 10 10, site 2 10 00 00, site 3 00 01 01"
abbrev pub K_store : List ℕ
K_store = 0 ∷ 1 ∷ 1 ∷ 0 ∷ 1 ∷ 0 ∷ 1 ∷ 0 ∷ 0 ∷ 0 ∷ 0 ∷ 0 ∷ 0 ∷ 0 ∷ 0 ∷ 1 ∷ 0 ∷ 1 ∷ []

abbrev pub rows : List Row
rows =
    -- K1: "inputs 1 1 open 1 1 1; transcript 1000 0110 1111 0111 1001 100001." K2: its store.
    record {
      call = K_run [];
      wanted = good_with ((1 ∷ 1 ∷ 1 ∷ []) ∷ (1 ∷ 0 ∷ 0 ∷ 0 ∷ 0 ∷ 1 ∷ 1 ∷ 0 ∷ 1 ∷ 1 ∷ 1 ∷ 1 ∷ 0 ∷ 1 ∷ 1 ∷ 1 ∷ 1 ∷ 0 ∷ 0 ∷ 1 ∷ 1 ∷ 0 ∷ 0 ∷ 0 ∷ 0 ∷ 1 ∷ []) ∷ K_store ∷ []);
    }
    -- K1's listing
    ∷ record {
      call = Listing K_job (untouched 2624);
      wanted = stopped_with (good (47 ∷ [])) (fill (untouched 2624) (
          -- inputs 2 gates 1 outputs 1
          105 ∷ 110 ∷ 112 ∷ 117 ∷ 116 ∷ 115 ∷ 32 ∷ 50 ∷ 32 ∷ 103 ∷ 97 ∷ 116 ∷ 101 ∷ 115 ∷ 32 ∷ 49 ∷ 32 ∷ 111 ∷ 117 ∷ 116 ∷ 112 ∷ 117 ∷ 116 ∷ 115 ∷ 32 ∷ 49 ∷ 10
          -- bits 23
          ∷ 98 ∷ 105 ∷ 116 ∷ 115 ∷ 32 ∷ 50 ∷ 51 ∷ 10
          -- out 0 1
          ∷ 111 ∷ 117 ∷ 116 ∷ 32 ∷ 48 ∷ 32 ∷ 49 ∷ 10
          -- end
          ∷ 101 ∷ 110 ∷ 100 ∷ 10 ∷ []) ∷ []);
    }
    -- K3: "site 3's view is 10 00 01 11 01 00 1"
    ∷ record {
      call = View K_file (1 ∷ 1 ∷ []) K_tapes 3 (untouched 13) (untouched 18);
      wanted = good_with ((1 ∷ 0 ∷ 0 ∷ 0 ∷ 0 ∷ 1 ∷ 1 ∷ 1 ∷ 0 ∷ 1 ∷ 0 ∷ 0 ∷ 1 ∷ []) ∷ K_store ∷ []);
    }
    -- K4: "line bit 20 set: abort, output 0, sites 2"
    ∷ record {
      call = K_run (20 ∷ []);
      wanted = stopped_with (abort 0 2) (untouched 3 ∷ (1 ∷ 0 ∷ 0 ∷ 0 ∷ 0 ∷ 1 ∷ 1 ∷ 0 ∷ 1 ∷ 1 ∷ 1 ∷ 1 ∷ 0 ∷ 1 ∷ 1 ∷ 1 ∷ 1 ∷ 0 ∷ 0 ∷ 1 ∷ 0 ∷ 0 ∷ 0 ∷ 0 ∷ 0 ∷ 1 ∷ []) ∷ K_store ∷ []);
    }
    -- K5: "line bits 23 and 24 set: no abort, outputs 0 1 1"
    ∷ record {
      call = K_run (23 ∷ 24 ∷ []);
      wanted = good_with ((0 ∷ 1 ∷ 1 ∷ []) ∷ (1 ∷ 0 ∷ 0 ∷ 0 ∷ 0 ∷ 1 ∷ 1 ∷ 0 ∷ 1 ∷ 1 ∷ 1 ∷ 1 ∷ 0 ∷ 1 ∷ 1 ∷ 1 ∷ 1 ∷ 0 ∷ 0 ∷ 1 ∷ 1 ∷ 0 ∷ 0 ∷ 1 ∷ 1 ∷ 1 ∷ []) ∷ K_store ∷ []);
    }
    -- K6: "line bit 8 set: abort, output 0, sites 4"
    ∷ record {
      call = K_run (8 ∷ []);
      wanted = stopped_with (abort 0 4) (untouched 3 ∷ (1 ∷ 0 ∷ 0 ∷ 0 ∷ 0 ∷ 1 ∷ 1 ∷ 0 ∷ 0 ∷ 1 ∷ 1 ∷ 1 ∷ 0 ∷ 1 ∷ 1 ∷ 1 ∷ 1 ∷ 0 ∷ 0 ∷ 1 ∷ 1 ∷ 0 ∷ 1 ∷ 0 ∷ 0 ∷ 1 ∷ []) ∷ (0 ∷ 1 ∷ 1 ∷ 0 ∷ 1 ∷ 0 ∷ 1 ∷ 0 ∷ 0 ∷ 0 ∷ 1 ∷ 0 ∷ 0 ∷ 0 ∷ 0 ∷ 1 ∷ 0 ∷ 1 ∷ []) ∷ []);
    }
    -- K7: "line bit 0 set: outputs 1 1 1, no abort"
    ∷ record {
      call = K_run (0 ∷ []);
      wanted = good_with ((1 ∷ 1 ∷ 1 ∷ []) ∷ (0 ∷ 0 ∷ 0 ∷ 0 ∷ 0 ∷ 1 ∷ 1 ∷ 0 ∷ 1 ∷ 1 ∷ 1 ∷ 1 ∷ 0 ∷ 1 ∷ 1 ∷ 1 ∷ 1 ∷ 0 ∷ 0 ∷ 1 ∷ 1 ∷ 0 ∷ 0 ∷ 0 ∷ 0 ∷ 1 ∷ []) ∷ (0 ∷ 1 ∷ 1 ∷ 0 ∷ 1 ∷ 0 ∷ 0 ∷ 0 ∷ 0 ∷ 0 ∷ 0 ∷ 0 ∷ 0 ∷ 0 ∷ 0 ∷ 1 ∷ 0 ∷ 1 ∷ []) ∷ []);
    }
    -- K8: "site 3, inputs 1 0 to 0 1: new tapes 0001, 0101, 10"
    ∷ record {
      call = K_retape 3 (1 ∷ 0 ∷ []) (0 ∷ 1 ∷ []);
      wanted = good_with ((0 ∷ 0 ∷ 0 ∷ 1 ∷ 0 ∷ 1 ∷ 0 ∷ 1 ∷ 1 ∷ 0 ∷ []) ∷ (1 ∷ 0 ∷ 0 ∷ 0 ∷ 1 ∷ 0 ∷ 0 ∷ 0 ∷ 0 ∷ 1 ∷ 0 ∷ 1 ∷ []) ∷ []);
    }
    -- K9: "site 3, inputs 1 1 to 1 0: refusal 13, place 2"
    ∷ record {
      call = K_retape 3 (1 ∷ 1 ∷ []) (1 ∷ 0 ∷ []);
      wanted = stopped_with (refused 13 2) (untouched 10 ∷ ((1 ∷ 1 ∷ 1 ∷ 1 ∷ 0 ∷ 0 ∷ []) ++ untouched 6) ∷ []);
    }
    -- K10: "site 1, inputs 1 0 to 0 0: refusal 13, place 0"
    ∷ record {
      call = K_retape 1 (1 ∷ 0 ∷ []) (0 ∷ 0 ∷ []);
      wanted = stopped_with (refused 13 0) (untouched 10 ∷ ((1 ∷ 0 ∷ 0 ∷ 0 ∷ 0 ∷ 0 ∷ []) ++ untouched 6) ∷ []);
    }
    -- K11: "gate AND 0 2: refusal 5, place 0. AND 0 0 is good."
    ∷ record { call = Check (K_with 0 2); wanted = stopped_with (refused 5 0) [] }
    ∷ record { call = Check (K_with 0 0); wanted = stopped_with (good (2 ∷ 1 ∷ 1 ∷ [])) [] }
    -- K12: "K1's traffic rows: 0 4 5, 5 0 4, 2 3 0"
    ∷ record {
      call = Traffic K_file;
      wanted = good_returns ((0 ∷ 4 ∷ 5 ∷ []) ∷ (5 ∷ 0 ∷ 4 ∷ []) ∷ (2 ∷ 3 ∷ 0 ∷ []) ∷ []);
    }
    ∷ []
