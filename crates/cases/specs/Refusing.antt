-- The calls at the edges of 107 to 112: the last that is accepted, and the first that is refused.
use Rattle.std.specs.Prelude.{◌-◌, ◌^◌, List, [], ◌∷◌, replicate, None}
use Rattle.machine.specs.Calls.{Put, Fetch, Set, Get, Run, Last, Filled, Word, Latest}
use Rattle.cases.specs.Calling.{CallCase, Ends, asks, refused, writes, too_small}

-- 107: the memory has one byte less than the laid size. The cases below have a memory of the laid size.
abbrev pub memories : List CallCase
memories =
    too_small (Put 1 0 []) ∷
    too_small (Fetch 1 0 0) ∷
    too_small (Set 1 0 5) ∷
    too_small (Get 1 0) ∷
    too_small (Run 1 0 258) ∷
    too_small (Last 1) ∷
    []

-- 108: compartment 1 is the last.
abbrev pub compartments : List CallCase
compartments =
    writes (Put 1 0 (7 ∷ [])) ((2072, 7) ∷ []) ∷
    refused (Put 2 0 (7 ∷ [])) 108 ∷
    asks (Fetch 1 15 1) (Filled (9 ∷ [])) ∷
    refused (Fetch 2 15 1) 108 ∷
    writes (Set 1 0 5) ((2095, 5) ∷ []) ∷
    refused (Set 2 0 5) 108 ∷
    asks (Get 1 0) (Word 0) ∷
    refused (Get 2 0) 108 ∷
    refused (Run 2 0 258) 108 ∷
    asks (Last 1) (Latest None) ∷
    refused (Last 2) 108 ∷
    []

-- 109: max is 15. No bytes at 16 are accepted; sums do not wrap.
abbrev pub spans : List CallCase
spans =
    writes (Put 1 15 (7 ∷ [])) ((2087, 7) ∷ []) ∷
    refused (Put 1 16 (7 ∷ [])) 109 ∷
    writes (Put 1 16 []) [] ∷
    refused (Put 1 17 []) 109 ∷
    writes (Put 1 0 (replicate 16 9)) ((2072, 9) ∷ (2073, 9) ∷ (2074, 9) ∷ (2075, 9) ∷ (2076, 9) ∷ (2077, 9) ∷ (2078, 9) ∷ (2079, 9) ∷ (2080, 9) ∷ (2081, 9) ∷ (2082, 9) ∷ (2083, 9) ∷ (2084, 9) ∷ (2085, 9) ∷ (2086, 9) ∷ []) ∷
    refused (Put 1 0 (replicate 17 9)) 109 ∷
    refused (Put 1 (2 ^ 64 - 1) (7 ∷ [])) 109 ∷
    asks (Fetch 1 15 1) (Filled (9 ∷ [])) ∷
    refused (Fetch 1 16 1) 109 ∷
    asks (Fetch 1 16 0) (Filled []) ∷
    refused (Fetch 1 17 0) 109 ∷
    asks (Fetch 1 14 2) (Filled (0 ∷ 9 ∷ [])) ∷
    refused (Fetch 1 14 3) 109 ∷
    refused (Fetch 1 (2 ^ 64 - 1) 1) 109 ∷
    []

-- 110: entry 257 is the last.
abbrev pub indexes : List CallCase
indexes =
    writes (Set 1 257 0x8182838485868788) ((4144, 0x81) ∷ (4145, 0x82) ∷ (4146, 0x83) ∷ (4147, 0x84) ∷ (4148, 0x85) ∷ (4149, 0x86) ∷ (4150, 0x87) ∷ (4151, 0x88) ∷ []) ∷
    refused (Set 1 258 5) 110 ∷
    asks (Get 1 257) (Word 32) ∷
    refused (Get 1 258) 110 ∷
    []

-- 111 and 112: a work area has 258 qwords. The window's bytes are 0, so a run halts at once.
abbrev pub AcceptedRuns : Type 0
AcceptedRuns = Ends 0 2 0 × Ends 1 0 1 × Ends 1000000 0 1

abbrev pub refused_runs : List CallCase
refused_runs =
    refused (Run 1 1000001 258) 111 ∷
    refused (Run 1 1 257) 112 ∷
    refused (Run 1 1 259) 112 ∷
    refused (Run 1 0 0) 112 ∷
    []

-- Where several grounds apply, the lowest number is given.
abbrev pub lowest : List CallCase
lowest =
    too_small (Put 2 16 (7 ∷ [])) ∷
    too_small (Run 2 1000001 257) ∷
    too_small (Last 2) ∷
    refused (Put 2 16 (7 ∷ [])) 108 ∷
    refused (Fetch 2 16 1) 108 ∷
    refused (Set 2 258 5) 108 ∷
    refused (Get 2 258) 108 ∷
    refused (Run 2 1000001 257) 108 ∷
    refused (Run 1 1000001 257) 111 ∷
    []
