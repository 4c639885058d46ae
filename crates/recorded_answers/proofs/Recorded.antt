-- Recorded answers of the Rust and of the model (host/recorded/answers.bin), computed by the checker from the definitions: each call's number, count and output
-- buffer, and every byte of the store that it leaves. Written by host/recorded/worked.py, which says which calls are taken.
-- Assumes nothing.
use mathlib.Core.Path.{◌≡◌, refl}
use mathlib.Core.List.{List, [], ◌∷◌, ◌++◌}
use Prim.Native.Nat.{ℕ, zero, suc, ◌+◌, ◌%◌}
use Rattle.rules.specs.Time.{Time}
use Rattle.rules.specs.Store.{Store}
use Rattle.rules.specs.Call.{call}
use Rattle.rules.specs.Call.Look.{read, fill}
use Rattle.rules.specs.Call.Call.{fresh, enter, write, grow, settle, look}
use Rattle.rules.proofs.Opened.{opened}

-- so many seconds, and nanoseconds
abbrev pub time : ℕ → ℕ → Time
time seconds nanoseconds = record { seconds = seconds; nanoseconds = nanoseconds }

-- n bytes from b on, each a step above the one before, modulo 256
pub ramp : ℕ → ℕ → ℕ → List ℕ
ramp zero b step = []
ramp (suc n) b step = b ∷ ramp n ((b + step) % 256) step

-- entry 0, fill: refused by 1
pub before0 : Store
before0 = record { image = []; head = ramp 16 1 1 ++ (0 ∷ 10 ∷ 0 ∷ 0 ∷ 128 ∷ 0 ∷ 2 ∷ 0 ∷ 0 ∷ 48 ∷ 0 ∷ 2 ∷ []); cards = ramp 7 0 0 ++ (7 ∷ []) ++ ramp 6 0 0 ++ (70 ∷ 80 ∷ 0 ∷ 0 ∷ 0 ∷ 0 ∷ 192 ∷ []) ++ ramp 6 0 0 ++ (2 ∷ 128 ∷ 0 ∷ 0 ∷ 12 ∷ []) ++ ramp 7 0 0 ++ (12 ∷ 0 ∷ 0 ∷ 0 ∷ 112 ∷ []) ++ ramp 11 0 0 ++ (9 ∷ []) ++ ramp 6 0 0 ++ (156 ∷ 64 ∷ 0 ∷ 0 ∷ 0 ∷ 1 ∷ 64 ∷ []) ++ ramp 6 0 0 ++ (2 ∷ 128 ∷ 0 ∷ 0 ∷ 12 ∷ []) ++ ramp 7 0 0 ++ (12 ∷ 0 ∷ 0 ∷ 0 ∷ 144 ∷ []) ++ ramp 100 0 0; extents = ramp 7 0 0 ++ (7 ∷ 3 ∷ []) ++ ramp 8 0 0 ++ (2 ∷ []) ++ ramp 7 0 0 ++ (1 ∷ []) ++ ramp 14 0 0 ++ (7 ∷ 3 ∷ []) ++ ramp 7 0 0 ++ (1 ∷ 10 ∷ []) ++ ramp 7 0 0 ++ (2 ∷ []) ++ ramp 14 0 0 ++ (9 ∷ 3 ∷ []) ++ ramp 8 0 0 ++ (5 ∷ []) ++ ramp 7 0 0 ++ (5 ∷ []) ++ ramp 172 0 0; groups = ramp 7 0 0 ++ (7 ∷ 4 ∷ []) ++ ramp 8 0 0 ++ (1 ∷ []) ++ ramp 31 0 0 ++ (124 ∷ 37 ∷ 94 ∷ 195 ∷ []) ++ ramp 1027 0 0 ++ (9 ∷ 4 ∷ []) ++ ramp 8 0 0 ++ (1 ∷ []) ++ ramp 31 0 0 ++ (114 ∷ 79 ∷ 234 ∷ 84 ∷ []) ++ ramp 3166 0 0; used = (255 ∷ 15 ∷ []) ++ ramp 6 0 0; retired = (24 ∷ []) ++ ramp 7 0 0 }

pub entry0 : call (look (fill)) before0 ≡ record { number = 1; count = 0; store = before0; out = [] }
unfolding opened ramp before0
entry0 = refl

-- entry 1, settle: refused by 1
pub before1 : Store
before1 = record { image = ramp 4097 0 0; head = ramp 16 1 1 ++ (0 ∷ 10 ∷ 0 ∷ 0 ∷ 128 ∷ 0 ∷ 2 ∷ 0 ∷ 0 ∷ 48 ∷ 0 ∷ 2 ∷ []); cards = ramp 7 0 0 ++ (7 ∷ []) ++ ramp 6 0 0 ++ (70 ∷ 80 ∷ 0 ∷ 0 ∷ 0 ∷ 0 ∷ 192 ∷ []) ++ ramp 6 0 0 ++ (2 ∷ 128 ∷ 0 ∷ 0 ∷ 12 ∷ []) ++ ramp 7 0 0 ++ (12 ∷ 0 ∷ 0 ∷ 0 ∷ 112 ∷ []) ++ ramp 11 0 0 ++ (9 ∷ []) ++ ramp 6 0 0 ++ (156 ∷ 64 ∷ 0 ∷ 0 ∷ 0 ∷ 1 ∷ 64 ∷ []) ++ ramp 6 0 0 ++ (2 ∷ 128 ∷ 0 ∷ 0 ∷ 12 ∷ []) ++ ramp 7 0 0 ++ (12 ∷ 0 ∷ 0 ∷ 0 ∷ 144 ∷ []) ++ ramp 100 0 0; extents = ramp 7 0 0 ++ (7 ∷ 3 ∷ []) ++ ramp 8 0 0 ++ (2 ∷ []) ++ ramp 7 0 0 ++ (1 ∷ []) ++ ramp 14 0 0 ++ (7 ∷ 3 ∷ []) ++ ramp 7 0 0 ++ (1 ∷ 10 ∷ []) ++ ramp 7 0 0 ++ (2 ∷ []) ++ ramp 14 0 0 ++ (9 ∷ 3 ∷ []) ++ ramp 8 0 0 ++ (5 ∷ []) ++ ramp 7 0 0 ++ (5 ∷ []) ++ ramp 172 0 0; groups = ramp 7 0 0 ++ (7 ∷ 4 ∷ []) ++ ramp 8 0 0 ++ (1 ∷ []) ++ ramp 31 0 0 ++ (124 ∷ 37 ∷ 94 ∷ 195 ∷ []) ++ ramp 1027 0 0 ++ (9 ∷ 4 ∷ []) ++ ramp 8 0 0 ++ (1 ∷ []) ++ ramp 31 0 0 ++ (114 ∷ 79 ∷ 234 ∷ 84 ∷ []) ++ ramp 3166 0 0; used = (255 ∷ 15 ∷ []) ++ ramp 6 0 0; retired = (24 ∷ []) ++ ramp 7 0 0 }

pub entry1 : call (settle) before1 ≡ record { number = 1; count = 0; store = before1; out = [] }
unfolding opened ramp before1
entry1 = refl

-- entry 63, write: refused by 3
pub before63 : Store
before63 = record { image = ramp 4096 0 0; head = ramp 18 0 0 ++ (128 ∷ []) ++ ramp 9 0 0; cards = ramp 48 0 0; extents = ramp 33 0 0; groups = ramp 1073 0 0; used = ramp 8 0 0; retired = ramp 8 0 0 }

pub entry63 : call (write 0 0 ([]) (time 0 0)) before63 ≡ record { number = 3; count = 0; store = before63; out = [] }
unfolding opened ramp before63
entry63 = refl

-- entry 64, write: refused by 3
pub before64 : Store
before64 = record { image = ramp 4096 0 0; head = ramp 18 0 0 ++ (128 ∷ []) ++ ramp 9 0 0; cards = ramp 48 0 0; extents = ramp 33 0 0; groups = ramp 1073 0 0; used = ramp 8 0 0; retired = ramp 8 0 0 }

pub entry64 : call (write 0 9223372036854775807 ((1 ∷ [])) (time 0 0)) before64 ≡ record { number = 3; count = 0; store = before64; out = [] }
unfolding opened ramp before64
entry64 = refl

-- entry 65, grow: refused by 3
pub before65 : Store
before65 = record { image = ramp 4096 0 0; head = ramp 18 0 0 ++ (128 ∷ []) ++ ramp 9 0 0; cards = ramp 48 0 0; extents = ramp 33 0 0; groups = ramp 1073 0 0; used = ramp 8 0 0; retired = ramp 8 0 0 }

pub entry65 : call (grow 0 9223372036854775808 (time 0 0)) before65 ≡ record { number = 3; count = 0; store = before65; out = [] }
unfolding opened ramp before65
entry65 = refl

-- entry 66, write: refused by 3
pub before66 : Store
before66 = record { image = ramp 4096 0 0; head = ramp 18 0 0 ++ (128 ∷ []) ++ ramp 9 0 0; cards = ramp 48 0 0; extents = ramp 33 0 0; groups = ramp 1073 0 0; used = ramp 8 0 0; retired = ramp 8 0 0 }

pub entry66 : call (write 0 0 ((1 ∷ [])) (time 9223372036854775808 0)) before66 ≡ record { number = 3; count = 0; store = before66; out = [] }
unfolding opened ramp before66
entry66 = refl

-- entry 67, grow: refused by 6
pub before67 : Store
before67 = record { image = ramp 4096 0 0; head = ramp 18 0 0 ++ (128 ∷ 0 ∷ 0 ∷ 0 ∷ 1 ∷ 0 ∷ 0 ∷ 0 ∷ 0 ∷ 0 ∷ []); cards = ramp 15 0 0 ++ (2 ∷ []) ++ ramp 32 0 0; extents = ramp 33 0 0; groups = ramp 1073 0 0; used = ramp 8 0 0; retired = ramp 8 0 0 }

pub entry67 : call (grow 0 0 (time 0 0)) before67 ≡ record { number = 6; count = 0; store = before67; out = [] }
unfolding opened ramp before67
entry67 = refl

-- entry 68, write: refused by 14
pub before68 : Store
before68 = record { image = ramp 4096 0 0; head = ramp 18 0 0 ++ (128 ∷ 0 ∷ 0 ∷ 0 ∷ 1 ∷ 0 ∷ 0 ∷ 0 ∷ 0 ∷ 0 ∷ []); cards = ramp 15 0 0 ++ (1 ∷ 255 ∷ 255 ∷ 255 ∷ 255 ∷ 192 ∷ []) ++ ramp 27 0 0; extents = ramp 33 0 0; groups = ramp 1073 0 0; used = ramp 8 0 0; retired = ramp 8 0 0 }

pub entry68 : call (write 0 0 ((1 ∷ [])) (time 0 0)) before68 ≡ record { number = 14; count = 0; store = before68; out = [] }
unfolding opened ramp before68
entry68 = refl

-- entry 283, fresh: accepted
pub before283 : Store
before283 = record { image = ramp 16384 0 0; head = ramp 28 0 0; cards = ramp 144 0 0; extents = ramp 1947 0 0; groups = ramp 3219 0 0; used = ramp 8 0 0; retired = ramp 8 0 0 }

pub after283 : Store
after283 = record { image = ramp 16384 0 0; head = (57 ∷ 128 ∷ 205 ∷ 228 ∷ 135 ∷ 178 ∷ 162 ∷ 58 ∷ 26 ∷ 12 ∷ 137 ∷ 161 ∷ 209 ∷ 160 ∷ 182 ∷ 171 ∷ 0 ∷ 2 ∷ []) ++ ramp 10 0 0; cards = ramp 144 0 0; extents = ramp 1947 0 0; groups = ramp 3219 0 0; used = ramp 8 0 0; retired = ramp 8 0 0 }

pub entry283 : call (fresh ((57 ∷ 128 ∷ 205 ∷ 228 ∷ 135 ∷ 178 ∷ 162 ∷ 58 ∷ 26 ∷ 12 ∷ 137 ∷ 161 ∷ 209 ∷ 160 ∷ 182 ∷ 171 ∷ [])) 0) before283 ≡ record { number = 0; count = 0; store = after283; out = [] }
unfolding opened ramp before283 after283
entry283 = refl

-- entry 284, enter: accepted
pub before284 : Store
before284 = record { image = ramp 16384 0 0; head = (57 ∷ 128 ∷ 205 ∷ 228 ∷ 135 ∷ 178 ∷ 162 ∷ 58 ∷ 26 ∷ 12 ∷ 137 ∷ 161 ∷ 209 ∷ 160 ∷ 182 ∷ 171 ∷ 0 ∷ 2 ∷ []) ++ ramp 10 0 0; cards = ramp 144 0 0; extents = ramp 1947 0 0; groups = ramp 3219 0 0; used = ramp 8 0 0; retired = ramp 8 0 0 }

pub after284 : Store
after284 = record { image = ramp 16384 0 0; head = (57 ∷ 128 ∷ 205 ∷ 228 ∷ 135 ∷ 178 ∷ 162 ∷ 58 ∷ 26 ∷ 12 ∷ 137 ∷ 161 ∷ 209 ∷ 160 ∷ 182 ∷ 171 ∷ 0 ∷ 2 ∷ 0 ∷ 0 ∷ 0 ∷ 0 ∷ 1 ∷ 0 ∷ 0 ∷ 0 ∷ 0 ∷ 0 ∷ []); cards = ramp 7 0 0 ++ (255 ∷ []) ++ ramp 16 0 0 ++ (91 ∷ 234 ∷ 124 ∷ 116 ∷ 186 ∷ 247 ∷ 21 ∷ 68 ∷ 0 ∷ 0 ∷ 0 ∷ 2 ∷ 223 ∷ 83 ∷ 227 ∷ 165 ∷ 215 ∷ 184 ∷ 170 ∷ 32 ∷ []) ++ ramp 100 0 0; extents = ramp 1947 0 0; groups = ramp 3219 0 0; used = ramp 8 0 0; retired = ramp 8 0 0 }

pub entry284 : call (enter 255 (time 3084187881 494635682)) before284 ≡ record { number = 0; count = 0; store = after284; out = [] }
unfolding opened ramp before284 after284
entry284 = refl

-- entry 285, enter: accepted
pub before285 : Store
before285 = record { image = ramp 16384 0 0; head = (57 ∷ 128 ∷ 205 ∷ 228 ∷ 135 ∷ 178 ∷ 162 ∷ 58 ∷ 26 ∷ 12 ∷ 137 ∷ 161 ∷ 209 ∷ 160 ∷ 182 ∷ 171 ∷ 0 ∷ 2 ∷ 0 ∷ 0 ∷ 0 ∷ 0 ∷ 1 ∷ 0 ∷ 0 ∷ 0 ∷ 0 ∷ 0 ∷ []); cards = ramp 7 0 0 ++ (255 ∷ []) ++ ramp 16 0 0 ++ (91 ∷ 234 ∷ 124 ∷ 116 ∷ 186 ∷ 247 ∷ 21 ∷ 68 ∷ 0 ∷ 0 ∷ 0 ∷ 2 ∷ 223 ∷ 83 ∷ 227 ∷ 165 ∷ 215 ∷ 184 ∷ 170 ∷ 32 ∷ []) ++ ramp 100 0 0; extents = ramp 1947 0 0; groups = ramp 3219 0 0; used = ramp 8 0 0; retired = ramp 8 0 0 }

pub after285 : Store
after285 = record { image = ramp 16384 0 0; head = (57 ∷ 128 ∷ 205 ∷ 228 ∷ 135 ∷ 178 ∷ 162 ∷ 58 ∷ 26 ∷ 12 ∷ 137 ∷ 161 ∷ 209 ∷ 160 ∷ 182 ∷ 171 ∷ 0 ∷ 2 ∷ 0 ∷ 0 ∷ 0 ∷ 0 ∷ 2 ∷ 0 ∷ 0 ∷ 0 ∷ 0 ∷ 0 ∷ []); cards = ramp 7 0 0 ++ (1 ∷ []) ++ ramp 16 0 0 ++ (97 ∷ 177 ∷ 215 ∷ 0 ∷ 211 ∷ 241 ∷ 38 ∷ 152 ∷ 0 ∷ 0 ∷ 0 ∷ 3 ∷ 13 ∷ 142 ∷ 184 ∷ 6 ∷ 159 ∷ 137 ∷ 52 ∷ 192 ∷ []) ++ ramp 11 0 0 ++ (255 ∷ []) ++ ramp 16 0 0 ++ (91 ∷ 234 ∷ 124 ∷ 116 ∷ 186 ∷ 247 ∷ 21 ∷ 68 ∷ 0 ∷ 0 ∷ 0 ∷ 2 ∷ 223 ∷ 83 ∷ 227 ∷ 165 ∷ 215 ∷ 184 ∷ 170 ∷ 32 ∷ []) ++ ramp 52 0 0; extents = ramp 1947 0 0; groups = ramp 3219 0 0; used = ramp 8 0 0; retired = ramp 8 0 0 }

pub entry285 : call (enter 1 (time 3278089729 704156492)) before285 ≡ record { number = 0; count = 0; store = after285; out = [] }
unfolding opened ramp before285 after285
entry285 = refl

-- entry 286, write: refused by 13
pub before286 : Store
before286 = record { image = ramp 16384 0 0; head = (57 ∷ 128 ∷ 205 ∷ 228 ∷ 135 ∷ 178 ∷ 162 ∷ 58 ∷ 26 ∷ 12 ∷ 137 ∷ 161 ∷ 209 ∷ 160 ∷ 182 ∷ 171 ∷ 0 ∷ 2 ∷ 0 ∷ 0 ∷ 0 ∷ 0 ∷ 2 ∷ 0 ∷ 0 ∷ 0 ∷ 0 ∷ 0 ∷ []); cards = ramp 7 0 0 ++ (1 ∷ []) ++ ramp 16 0 0 ++ (97 ∷ 177 ∷ 215 ∷ 0 ∷ 211 ∷ 241 ∷ 38 ∷ 152 ∷ 0 ∷ 0 ∷ 0 ∷ 3 ∷ 13 ∷ 142 ∷ 184 ∷ 6 ∷ 159 ∷ 137 ∷ 52 ∷ 192 ∷ []) ++ ramp 11 0 0 ++ (255 ∷ []) ++ ramp 16 0 0 ++ (91 ∷ 234 ∷ 124 ∷ 116 ∷ 186 ∷ 247 ∷ 21 ∷ 68 ∷ 0 ∷ 0 ∷ 0 ∷ 2 ∷ 223 ∷ 83 ∷ 227 ∷ 165 ∷ 215 ∷ 184 ∷ 170 ∷ 32 ∷ []) ++ ramp 52 0 0; extents = ramp 1947 0 0; groups = ramp 3219 0 0; used = ramp 8 0 0; retired = ramp 8 0 0 }

pub entry286 : call (write 255 65535 (ramp 1230 0 245 ++ ramp 1996 0 0 ++ ramp 131 114 101) (time 1912504832 295426023)) before286 ≡ record { number = 13; count = 0; store = before286; out = [] }
unfolding opened ramp before286
entry286 = refl

-- entry 287, read: accepted
pub before287 : Store
before287 = record { image = ramp 16384 0 0; head = (57 ∷ 128 ∷ 205 ∷ 228 ∷ 135 ∷ 178 ∷ 162 ∷ 58 ∷ 26 ∷ 12 ∷ 137 ∷ 161 ∷ 209 ∷ 160 ∷ 182 ∷ 171 ∷ 0 ∷ 2 ∷ 0 ∷ 0 ∷ 0 ∷ 0 ∷ 2 ∷ 0 ∷ 0 ∷ 0 ∷ 0 ∷ 0 ∷ []); cards = ramp 7 0 0 ++ (1 ∷ []) ++ ramp 16 0 0 ++ (97 ∷ 177 ∷ 215 ∷ 0 ∷ 211 ∷ 241 ∷ 38 ∷ 152 ∷ 0 ∷ 0 ∷ 0 ∷ 3 ∷ 13 ∷ 142 ∷ 184 ∷ 6 ∷ 159 ∷ 137 ∷ 52 ∷ 192 ∷ []) ++ ramp 11 0 0 ++ (255 ∷ []) ++ ramp 16 0 0 ++ (91 ∷ 234 ∷ 124 ∷ 116 ∷ 186 ∷ 247 ∷ 21 ∷ 68 ∷ 0 ∷ 0 ∷ 0 ∷ 2 ∷ 223 ∷ 83 ∷ 227 ∷ 165 ∷ 215 ∷ 184 ∷ 170 ∷ 32 ∷ []) ++ ramp 52 0 0; extents = ramp 1947 0 0; groups = ramp 3219 0 0; used = ramp 8 0 0; retired = ramp 8 0 0 }

pub entry287 : call (look (read 255 4095 (ramp 5000 165 0))) before287 ≡ record { number = 0; count = 0; store = before287; out = ramp 5000 165 0 }
unfolding opened ramp before287
entry287 = refl

-- entry 291, settle: accepted
pub before291 : Store
before291 = record { image = ramp 5367 192 77 ++ ramp 3991 0 0 ++ ramp 4201 118 77 ++ ramp 2825 0 0; head = (57 ∷ 128 ∷ 205 ∷ 228 ∷ 135 ∷ 178 ∷ 162 ∷ 58 ∷ 26 ∷ 12 ∷ 137 ∷ 161 ∷ 209 ∷ 160 ∷ 182 ∷ 171 ∷ 0 ∷ 2 ∷ 0 ∷ 0 ∷ 0 ∷ 0 ∷ 2 ∷ 0 ∷ 0 ∷ 16 ∷ 0 ∷ 1 ∷ []); cards = ramp 7 0 0 ++ (1 ∷ []) ++ ramp 6 0 0 ++ (41 ∷ 238 ∷ 0 ∷ 0 ∷ 0 ∷ 0 ∷ 128 ∷ 0 ∷ 0 ∷ 0 ∷ 73 ∷ 46 ∷ 179 ∷ 199 ∷ 192 ∷ 214 ∷ 102 ∷ 180 ∷ 0 ∷ 0 ∷ 0 ∷ 3 ∷ 13 ∷ 142 ∷ 184 ∷ 6 ∷ 159 ∷ 137 ∷ 52 ∷ 192 ∷ []) ++ ramp 11 0 0 ++ (255 ∷ []) ++ ramp 16 0 0 ++ (91 ∷ 234 ∷ 124 ∷ 116 ∷ 186 ∷ 247 ∷ 21 ∷ 68 ∷ 0 ∷ 0 ∷ 0 ∷ 2 ∷ 223 ∷ 83 ∷ 227 ∷ 165 ∷ 215 ∷ 184 ∷ 170 ∷ 32 ∷ []) ++ ramp 52 0 0; extents = ramp 7 0 0 ++ (1 ∷ 3 ∷ []) ++ ramp 8 0 0 ++ (2 ∷ []) ++ ramp 7 0 0 ++ (2 ∷ []) ++ ramp 1921 0 0; groups = ramp 7 0 0 ++ (1 ∷ 4 ∷ []) ++ ramp 8 0 0 ++ (1 ∷ []) ++ ramp 31 0 0 ++ (190 ∷ 18 ∷ 148 ∷ 41 ∷ []) ++ ramp 3166 0 0; used = (15 ∷ []) ++ ramp 7 0 0; retired = (3 ∷ []) ++ ramp 7 0 0 }

pub after291 : Store
after291 = record { image = ramp 5367 192 77 ++ ramp 3991 0 0 ++ ramp 4201 118 77 ++ ramp 2825 0 0; head = (57 ∷ 128 ∷ 205 ∷ 228 ∷ 135 ∷ 178 ∷ 162 ∷ 58 ∷ 26 ∷ 12 ∷ 137 ∷ 161 ∷ 209 ∷ 160 ∷ 182 ∷ 171 ∷ 0 ∷ 2 ∷ 0 ∷ 0 ∷ 0 ∷ 0 ∷ 2 ∷ 0 ∷ 0 ∷ 16 ∷ 0 ∷ 1 ∷ []); cards = ramp 7 0 0 ++ (1 ∷ []) ++ ramp 6 0 0 ++ (41 ∷ 238 ∷ 0 ∷ 0 ∷ 0 ∷ 0 ∷ 128 ∷ 0 ∷ 0 ∷ 0 ∷ 73 ∷ 46 ∷ 179 ∷ 199 ∷ 192 ∷ 214 ∷ 102 ∷ 180 ∷ 0 ∷ 0 ∷ 0 ∷ 3 ∷ 13 ∷ 142 ∷ 184 ∷ 6 ∷ 159 ∷ 137 ∷ 52 ∷ 192 ∷ []) ++ ramp 11 0 0 ++ (255 ∷ []) ++ ramp 16 0 0 ++ (91 ∷ 234 ∷ 124 ∷ 116 ∷ 186 ∷ 247 ∷ 21 ∷ 68 ∷ 0 ∷ 0 ∷ 0 ∷ 2 ∷ 223 ∷ 83 ∷ 227 ∷ 165 ∷ 215 ∷ 184 ∷ 170 ∷ 32 ∷ []) ++ ramp 52 0 0; extents = ramp 7 0 0 ++ (1 ∷ 3 ∷ []) ++ ramp 8 0 0 ++ (2 ∷ []) ++ ramp 7 0 0 ++ (2 ∷ []) ++ ramp 1921 0 0; groups = ramp 7 0 0 ++ (1 ∷ 4 ∷ []) ++ ramp 8 0 0 ++ (1 ∷ []) ++ ramp 31 0 0 ++ (190 ∷ 18 ∷ 148 ∷ 41 ∷ []) ++ ramp 3166 0 0; used = (12 ∷ []) ++ ramp 7 0 0; retired = ramp 8 0 0 }

pub entry291 : call (settle) before291 ≡ record { number = 0; count = 2; store = after291; out = [] }
unfolding opened ramp before291 after291
entry291 = refl

-- entry 293, settle: accepted
pub before293 : Store
before293 = record { image = ramp 5460 22 139 ++ ramp 1898 4 137 ++ ramp 2000 0 0 ++ ramp 4201 118 77 ++ ramp 2825 0 0; head = (57 ∷ 128 ∷ 205 ∷ 228 ∷ 135 ∷ 178 ∷ 162 ∷ 58 ∷ 26 ∷ 12 ∷ 137 ∷ 161 ∷ 209 ∷ 160 ∷ 182 ∷ 171 ∷ 0 ∷ 2 ∷ 0 ∷ 0 ∷ 0 ∷ 0 ∷ 2 ∷ 0 ∷ 0 ∷ 16 ∷ 0 ∷ 1 ∷ []); cards = ramp 7 0 0 ++ (1 ∷ []) ++ ramp 6 0 0 ++ (57 ∷ 124 ∷ 0 ∷ 0 ∷ 0 ∷ 0 ∷ 128 ∷ 0 ∷ 0 ∷ 0 ∷ 20 ∷ 235 ∷ 12 ∷ 17 ∷ 139 ∷ 191 ∷ 180 ∷ 58 ∷ 0 ∷ 0 ∷ 0 ∷ 3 ∷ 13 ∷ 142 ∷ 184 ∷ 6 ∷ 159 ∷ 137 ∷ 52 ∷ 192 ∷ []) ++ ramp 11 0 0 ++ (255 ∷ []) ++ ramp 16 0 0 ++ (91 ∷ 234 ∷ 124 ∷ 116 ∷ 186 ∷ 247 ∷ 21 ∷ 68 ∷ 0 ∷ 0 ∷ 0 ∷ 2 ∷ 223 ∷ 83 ∷ 227 ∷ 165 ∷ 215 ∷ 184 ∷ 170 ∷ 32 ∷ []) ++ ramp 52 0 0; extents = ramp 7 0 0 ++ (1 ∷ 3 ∷ []) ++ ramp 16 0 0 ++ (2 ∷ []) ++ ramp 1921 0 0; groups = ramp 7 0 0 ++ (1 ∷ 4 ∷ []) ++ ramp 8 0 0 ++ (1 ∷ []) ++ ramp 31 0 0 ++ (63 ∷ 236 ∷ 206 ∷ 165 ∷ []) ++ ramp 3166 0 0; used = (15 ∷ []) ++ ramp 7 0 0; retired = (12 ∷ []) ++ ramp 7 0 0 }

pub after293 : Store
after293 = record { image = ramp 5460 22 139 ++ ramp 1898 4 137 ++ ramp 2000 0 0 ++ ramp 4201 118 77 ++ ramp 2825 0 0; head = (57 ∷ 128 ∷ 205 ∷ 228 ∷ 135 ∷ 178 ∷ 162 ∷ 58 ∷ 26 ∷ 12 ∷ 137 ∷ 161 ∷ 209 ∷ 160 ∷ 182 ∷ 171 ∷ 0 ∷ 2 ∷ 0 ∷ 0 ∷ 0 ∷ 0 ∷ 2 ∷ 0 ∷ 0 ∷ 16 ∷ 0 ∷ 1 ∷ []); cards = ramp 7 0 0 ++ (1 ∷ []) ++ ramp 6 0 0 ++ (57 ∷ 124 ∷ 0 ∷ 0 ∷ 0 ∷ 0 ∷ 128 ∷ 0 ∷ 0 ∷ 0 ∷ 20 ∷ 235 ∷ 12 ∷ 17 ∷ 139 ∷ 191 ∷ 180 ∷ 58 ∷ 0 ∷ 0 ∷ 0 ∷ 3 ∷ 13 ∷ 142 ∷ 184 ∷ 6 ∷ 159 ∷ 137 ∷ 52 ∷ 192 ∷ []) ++ ramp 11 0 0 ++ (255 ∷ []) ++ ramp 16 0 0 ++ (91 ∷ 234 ∷ 124 ∷ 116 ∷ 186 ∷ 247 ∷ 21 ∷ 68 ∷ 0 ∷ 0 ∷ 0 ∷ 2 ∷ 223 ∷ 83 ∷ 227 ∷ 165 ∷ 215 ∷ 184 ∷ 170 ∷ 32 ∷ []) ++ ramp 52 0 0; extents = ramp 7 0 0 ++ (1 ∷ 3 ∷ []) ++ ramp 16 0 0 ++ (2 ∷ []) ++ ramp 1921 0 0; groups = ramp 7 0 0 ++ (1 ∷ 4 ∷ []) ++ ramp 8 0 0 ++ (1 ∷ []) ++ ramp 31 0 0 ++ (63 ∷ 236 ∷ 206 ∷ 165 ∷ []) ++ ramp 3166 0 0; used = (3 ∷ []) ++ ramp 7 0 0; retired = ramp 8 0 0 }

pub entry293 : call (settle) before293 ≡ record { number = 0; count = 2; store = after293; out = [] }
unfolding opened ramp before293 after293
entry293 = refl

-- entry 294, read: accepted
pub before294 : Store
before294 = record { image = ramp 5460 22 139 ++ ramp 1898 4 137 ++ ramp 2000 0 0 ++ ramp 4201 118 77 ++ ramp 2825 0 0; head = (57 ∷ 128 ∷ 205 ∷ 228 ∷ 135 ∷ 178 ∷ 162 ∷ 58 ∷ 26 ∷ 12 ∷ 137 ∷ 161 ∷ 209 ∷ 160 ∷ 182 ∷ 171 ∷ 0 ∷ 2 ∷ 0 ∷ 0 ∷ 0 ∷ 0 ∷ 2 ∷ 0 ∷ 0 ∷ 16 ∷ 0 ∷ 1 ∷ []); cards = ramp 7 0 0 ++ (1 ∷ []) ++ ramp 6 0 0 ++ (57 ∷ 124 ∷ 0 ∷ 0 ∷ 0 ∷ 0 ∷ 128 ∷ 0 ∷ 0 ∷ 0 ∷ 20 ∷ 235 ∷ 12 ∷ 17 ∷ 139 ∷ 191 ∷ 180 ∷ 58 ∷ 0 ∷ 0 ∷ 0 ∷ 3 ∷ 13 ∷ 142 ∷ 184 ∷ 6 ∷ 159 ∷ 137 ∷ 52 ∷ 192 ∷ []) ++ ramp 11 0 0 ++ (255 ∷ []) ++ ramp 16 0 0 ++ (91 ∷ 234 ∷ 124 ∷ 116 ∷ 186 ∷ 247 ∷ 21 ∷ 68 ∷ 0 ∷ 0 ∷ 0 ∷ 2 ∷ 223 ∷ 83 ∷ 227 ∷ 165 ∷ 215 ∷ 184 ∷ 170 ∷ 32 ∷ []) ++ ramp 52 0 0; extents = ramp 7 0 0 ++ (1 ∷ 3 ∷ []) ++ ramp 16 0 0 ++ (2 ∷ []) ++ ramp 1921 0 0; groups = ramp 7 0 0 ++ (1 ∷ 4 ∷ []) ++ ramp 8 0 0 ++ (1 ∷ []) ++ ramp 31 0 0 ++ (63 ∷ 236 ∷ 206 ∷ 165 ∷ []) ++ ramp 3166 0 0; used = (3 ∷ []) ++ ramp 7 0 0; retired = ramp 8 0 0 }

pub entry294 : call (look (read 255 0 ([]))) before294 ≡ record { number = 0; count = 0; store = before294; out = [] }
unfolding opened ramp before294
entry294 = refl

-- entry 295, write: refused by 13
pub before295 : Store
before295 = record { image = ramp 5460 22 139 ++ ramp 1898 4 137 ++ ramp 2000 0 0 ++ ramp 4201 118 77 ++ ramp 2825 0 0; head = (57 ∷ 128 ∷ 205 ∷ 228 ∷ 135 ∷ 178 ∷ 162 ∷ 58 ∷ 26 ∷ 12 ∷ 137 ∷ 161 ∷ 209 ∷ 160 ∷ 182 ∷ 171 ∷ 0 ∷ 2 ∷ 0 ∷ 0 ∷ 0 ∷ 0 ∷ 2 ∷ 0 ∷ 0 ∷ 16 ∷ 0 ∷ 1 ∷ []); cards = ramp 7 0 0 ++ (1 ∷ []) ++ ramp 6 0 0 ++ (57 ∷ 124 ∷ 0 ∷ 0 ∷ 0 ∷ 0 ∷ 128 ∷ 0 ∷ 0 ∷ 0 ∷ 20 ∷ 235 ∷ 12 ∷ 17 ∷ 139 ∷ 191 ∷ 180 ∷ 58 ∷ 0 ∷ 0 ∷ 0 ∷ 3 ∷ 13 ∷ 142 ∷ 184 ∷ 6 ∷ 159 ∷ 137 ∷ 52 ∷ 192 ∷ []) ++ ramp 11 0 0 ++ (255 ∷ []) ++ ramp 16 0 0 ++ (91 ∷ 234 ∷ 124 ∷ 116 ∷ 186 ∷ 247 ∷ 21 ∷ 68 ∷ 0 ∷ 0 ∷ 0 ∷ 2 ∷ 223 ∷ 83 ∷ 227 ∷ 165 ∷ 215 ∷ 184 ∷ 170 ∷ 32 ∷ []) ++ ramp 52 0 0; extents = ramp 7 0 0 ++ (1 ∷ 3 ∷ []) ++ ramp 16 0 0 ++ (2 ∷ []) ++ ramp 1921 0 0; groups = ramp 7 0 0 ++ (1 ∷ 4 ∷ []) ++ ramp 8 0 0 ++ (1 ∷ []) ++ ramp 31 0 0 ++ (63 ∷ 236 ∷ 206 ∷ 165 ∷ []) ++ ramp 3166 0 0; used = (3 ∷ []) ++ ramp 7 0 0; retired = ramp 8 0 0 }

pub entry295 : call (write 255 12288 (ramp 3382 148 201 ++ ramp 4809 231 225) (time 3257556446 478963457)) before295 ≡ record { number = 13; count = 0; store = before295; out = [] }
unfolding opened ramp before295
entry295 = refl

-- entry 297, enter: refused by 4
pub before297 : Store
before297 = record { image = ramp 5460 22 139 ++ ramp 1898 4 137 ++ ramp 2000 0 0 ++ ramp 4201 118 77 ++ ramp 2825 0 0; head = (57 ∷ 128 ∷ 205 ∷ 228 ∷ 135 ∷ 178 ∷ 162 ∷ 58 ∷ 26 ∷ 12 ∷ 137 ∷ 161 ∷ 209 ∷ 160 ∷ 182 ∷ 171 ∷ 0 ∷ 2 ∷ 0 ∷ 0 ∷ 0 ∷ 0 ∷ 2 ∷ 0 ∷ 0 ∷ 16 ∷ 0 ∷ 1 ∷ []); cards = ramp 7 0 0 ++ (1 ∷ []) ++ ramp 6 0 0 ++ (57 ∷ 124 ∷ 0 ∷ 0 ∷ 0 ∷ 0 ∷ 128 ∷ 0 ∷ 0 ∷ 0 ∷ 20 ∷ 235 ∷ 12 ∷ 17 ∷ 139 ∷ 191 ∷ 180 ∷ 58 ∷ 0 ∷ 0 ∷ 0 ∷ 1 ∷ 73 ∷ 114 ∷ 214 ∷ 77 ∷ 108 ∷ 50 ∷ 68 ∷ 48 ∷ []) ++ ramp 11 0 0 ++ (255 ∷ []) ++ ramp 16 0 0 ++ (91 ∷ 234 ∷ 124 ∷ 116 ∷ 186 ∷ 247 ∷ 21 ∷ 68 ∷ 0 ∷ 0 ∷ 0 ∷ 2 ∷ 223 ∷ 83 ∷ 227 ∷ 165 ∷ 215 ∷ 184 ∷ 170 ∷ 32 ∷ []) ++ ramp 52 0 0; extents = ramp 7 0 0 ++ (1 ∷ 3 ∷ []) ++ ramp 16 0 0 ++ (2 ∷ []) ++ ramp 1921 0 0; groups = ramp 7 0 0 ++ (1 ∷ 4 ∷ []) ++ ramp 8 0 0 ++ (1 ∷ []) ++ ramp 31 0 0 ++ (63 ∷ 236 ∷ 206 ∷ 165 ∷ []) ++ ramp 3166 0 0; used = (3 ∷ []) ++ ramp 7 0 0; retired = ramp 8 0 0 }

pub entry297 : call (enter 255 (time 9223372036854775808 899087421)) before297 ≡ record { number = 4; count = 0; store = before297; out = [] }
unfolding opened ramp before297
entry297 = refl

-- entry 298, grow: accepted
pub before298 : Store
before298 = record { image = ramp 4094 22 139 ++ (1 ∷ []) ++ ramp 1365 139 139 ++ ramp 1898 4 137 ++ ramp 2000 0 0 ++ ramp 4201 118 77 ++ ramp 2825 0 0; head = (57 ∷ 128 ∷ 205 ∷ 228 ∷ 135 ∷ 178 ∷ 162 ∷ 58 ∷ 26 ∷ 12 ∷ 137 ∷ 161 ∷ 209 ∷ 160 ∷ 182 ∷ 171 ∷ 0 ∷ 2 ∷ 0 ∷ 0 ∷ 0 ∷ 0 ∷ 2 ∷ 0 ∷ 0 ∷ 16 ∷ 0 ∷ 1 ∷ []); cards = ramp 7 0 0 ++ (1 ∷ []) ++ ramp 6 0 0 ++ (57 ∷ 125 ∷ 255 ∷ 255 ∷ 255 ∷ 254 ∷ 64 ∷ 0 ∷ 0 ∷ 0 ∷ 20 ∷ 235 ∷ 12 ∷ 17 ∷ 139 ∷ 191 ∷ 180 ∷ 58 ∷ 0 ∷ 0 ∷ 0 ∷ 1 ∷ 97 ∷ 125 ∷ 157 ∷ 95 ∷ 185 ∷ 123 ∷ 185 ∷ 48 ∷ []) ++ ramp 11 0 0 ++ (255 ∷ []) ++ ramp 16 0 0 ++ (91 ∷ 234 ∷ 124 ∷ 116 ∷ 186 ∷ 247 ∷ 21 ∷ 68 ∷ 0 ∷ 0 ∷ 0 ∷ 2 ∷ 223 ∷ 83 ∷ 227 ∷ 165 ∷ 215 ∷ 184 ∷ 170 ∷ 32 ∷ []) ++ ramp 52 0 0; extents = ramp 7 0 0 ++ (1 ∷ 3 ∷ []) ++ ramp 16 0 0 ++ (2 ∷ []) ++ ramp 1921 0 0; groups = ramp 7 0 0 ++ (1 ∷ 4 ∷ []) ++ ramp 8 0 0 ++ (1 ∷ []) ++ ramp 31 0 0 ++ (100 ∷ 54 ∷ 151 ∷ 234 ∷ []) ++ ramp 3166 0 0; used = (3 ∷ []) ++ ramp 7 0 0; retired = ramp 8 0 0 }

pub after298 : Store
after298 = record { image = ramp 4094 22 139 ++ (1 ∷ []) ++ ramp 1365 139 139 ++ ramp 1898 4 137 ++ ramp 2000 0 0 ++ ramp 4201 118 77 ++ ramp 2825 0 0; head = (57 ∷ 128 ∷ 205 ∷ 228 ∷ 135 ∷ 178 ∷ 162 ∷ 58 ∷ 26 ∷ 12 ∷ 137 ∷ 161 ∷ 209 ∷ 160 ∷ 182 ∷ 171 ∷ 0 ∷ 2 ∷ 0 ∷ 0 ∷ 0 ∷ 0 ∷ 2 ∷ 0 ∷ 0 ∷ 16 ∷ 0 ∷ 1 ∷ []); cards = ramp 7 0 0 ++ (1 ∷ []) ++ ramp 6 0 0 ++ (57 ∷ 125 ∷ 255 ∷ 255 ∷ 255 ∷ 254 ∷ 64 ∷ 0 ∷ 0 ∷ 0 ∷ 20 ∷ 235 ∷ 12 ∷ 17 ∷ 139 ∷ 191 ∷ 180 ∷ 58 ∷ 0 ∷ 0 ∷ 0 ∷ 1 ∷ 97 ∷ 125 ∷ 157 ∷ 95 ∷ 185 ∷ 123 ∷ 185 ∷ 48 ∷ []) ++ ramp 11 0 0 ++ (255 ∷ []) ++ ramp 6 0 0 ++ (32 ∷ 2 ∷ []) ++ ramp 8 0 0 ++ (30 ∷ 207 ∷ 84 ∷ 251 ∷ 205 ∷ 236 ∷ 220 ∷ 90 ∷ 0 ∷ 0 ∷ 0 ∷ 2 ∷ 223 ∷ 83 ∷ 227 ∷ 165 ∷ 215 ∷ 184 ∷ 170 ∷ 32 ∷ []) ++ ramp 52 0 0; extents = ramp 7 0 0 ++ (1 ∷ 3 ∷ []) ++ ramp 16 0 0 ++ (2 ∷ []) ++ ramp 1921 0 0; groups = ramp 7 0 0 ++ (1 ∷ 4 ∷ []) ++ ramp 8 0 0 ++ (1 ∷ []) ++ ramp 31 0 0 ++ (100 ∷ 54 ∷ 151 ∷ 234 ∷ []) ++ ramp 3166 0 0; used = (3 ∷ []) ++ ramp 7 0 0; retired = ramp 8 0 0 }

pub entry298 : call (grow 255 4097 (time 1033808375 653684269)) before298 ≡ record { number = 0; count = 0; store = after298; out = [] }
unfolding opened ramp before298 after298
entry298 = refl

-- entry 302, grow: refused by 10
pub before302 : Store
before302 = record { image = ramp 4094 22 139 ++ (1 ∷ []) ++ ramp 1365 139 139 ++ ramp 1898 4 137 ++ ramp 834 0 0 ++ ramp 109 22 139 ++ ramp 3580 110 123 ++ ramp 407 0 0 ++ ramp 1271 192 77 ++ ramp 2825 0 0; head = (57 ∷ 128 ∷ 205 ∷ 228 ∷ 135 ∷ 178 ∷ 162 ∷ 58 ∷ 26 ∷ 12 ∷ 137 ∷ 161 ∷ 209 ∷ 160 ∷ 182 ∷ 171 ∷ 0 ∷ 2 ∷ 0 ∷ 0 ∷ 0 ∷ 0 ∷ 2 ∷ 0 ∷ 0 ∷ 16 ∷ 0 ∷ 2 ∷ []); cards = ramp 7 0 0 ++ (1 ∷ []) ++ ramp 6 0 0 ++ (60 ∷ 211 ∷ 255 ∷ 255 ∷ 255 ∷ 254 ∷ 64 ∷ 0 ∷ 0 ∷ 0 ∷ 15 ∷ 161 ∷ 4 ∷ 41 ∷ 70 ∷ 243 ∷ 131 ∷ 92 ∷ 0 ∷ 0 ∷ 0 ∷ 0 ∷ 43 ∷ 2 ∷ 8 ∷ 142 ∷ 112 ∷ 39 ∷ 180 ∷ 144 ∷ []) ++ ramp 11 0 0 ++ (255 ∷ []) ++ ramp 6 0 0 ++ (32 ∷ 2 ∷ []) ++ ramp 8 0 0 ++ (30 ∷ 207 ∷ 84 ∷ 251 ∷ 205 ∷ 236 ∷ 220 ∷ 90 ∷ 0 ∷ 0 ∷ 0 ∷ 1 ∷ 55 ∷ 37 ∷ 236 ∷ 93 ∷ 59 ∷ 153 ∷ 232 ∷ 48 ∷ []) ++ ramp 52 0 0; extents = ramp 7 0 0 ++ (1 ∷ 3 ∷ []) ++ ramp 16 0 0 ++ (1 ∷ []) ++ ramp 1921 0 0; groups = ramp 7 0 0 ++ (1 ∷ 4 ∷ []) ++ ramp 8 0 0 ++ (1 ∷ []) ++ ramp 31 0 0 ++ (54 ∷ 241 ∷ 49 ∷ 109 ∷ []) ++ ramp 1027 0 0 ++ (255 ∷ 4 ∷ []) ++ ramp 8 0 0 ++ (1 ∷ []) ++ ramp 31 0 0 ++ (128 ∷ 122 ∷ 163 ∷ 227 ∷ []) ++ ramp 2093 0 0; used = (5 ∷ []) ++ ramp 7 0 0; retired = ramp 8 0 0 }

pub entry302 : call (grow 255 8192 (time 1134938135 583490460)) before302 ≡ record { number = 10; count = 0; store = before302; out = [] }
unfolding opened ramp before302
entry302 = refl

-- entry 303, write: refused by 10
pub before303 : Store
before303 = record { image = ramp 4094 22 139 ++ (1 ∷ []) ++ ramp 1365 139 139 ++ ramp 1898 4 137 ++ ramp 834 0 0 ++ ramp 109 22 139 ++ ramp 3580 110 123 ++ ramp 407 0 0 ++ ramp 1271 192 77 ++ ramp 2825 0 0; head = (57 ∷ 128 ∷ 205 ∷ 228 ∷ 135 ∷ 178 ∷ 162 ∷ 58 ∷ 26 ∷ 12 ∷ 137 ∷ 161 ∷ 209 ∷ 160 ∷ 182 ∷ 171 ∷ 0 ∷ 2 ∷ 0 ∷ 0 ∷ 0 ∷ 0 ∷ 2 ∷ 0 ∷ 0 ∷ 16 ∷ 0 ∷ 2 ∷ []); cards = ramp 7 0 0 ++ (1 ∷ []) ++ ramp 6 0 0 ++ (60 ∷ 211 ∷ 255 ∷ 255 ∷ 255 ∷ 254 ∷ 64 ∷ 0 ∷ 0 ∷ 0 ∷ 15 ∷ 161 ∷ 4 ∷ 41 ∷ 70 ∷ 243 ∷ 131 ∷ 92 ∷ 0 ∷ 0 ∷ 0 ∷ 0 ∷ 43 ∷ 2 ∷ 8 ∷ 142 ∷ 112 ∷ 39 ∷ 180 ∷ 144 ∷ []) ++ ramp 11 0 0 ++ (255 ∷ []) ++ ramp 6 0 0 ++ (32 ∷ 2 ∷ []) ++ ramp 8 0 0 ++ (30 ∷ 207 ∷ 84 ∷ 251 ∷ 205 ∷ 236 ∷ 220 ∷ 90 ∷ 0 ∷ 0 ∷ 0 ∷ 1 ∷ 55 ∷ 37 ∷ 236 ∷ 93 ∷ 59 ∷ 153 ∷ 232 ∷ 48 ∷ []) ++ ramp 52 0 0; extents = ramp 7 0 0 ++ (1 ∷ 3 ∷ []) ++ ramp 16 0 0 ++ (1 ∷ []) ++ ramp 1921 0 0; groups = ramp 7 0 0 ++ (1 ∷ 4 ∷ []) ++ ramp 8 0 0 ++ (1 ∷ []) ++ ramp 31 0 0 ++ (54 ∷ 241 ∷ 49 ∷ 109 ∷ []) ++ ramp 1027 0 0 ++ (255 ∷ 4 ∷ []) ++ ramp 8 0 0 ++ (1 ∷ []) ++ ramp 31 0 0 ++ (128 ∷ 122 ∷ 163 ∷ 227 ∷ []) ++ ramp 2093 0 0; used = (5 ∷ []) ++ ramp 7 0 0; retired = ramp 8 0 0 }

pub entry303 : call (write 255 1387 (ramp 260 0 0) (time 2456931269 999999999)) before303 ≡ record { number = 10; count = 0; store = before303; out = [] }
unfolding opened ramp before303
entry303 = refl

-- entry 304, enter: refused by 4
pub before304 : Store
before304 = record { image = ramp 4094 22 139 ++ (1 ∷ []) ++ ramp 1365 139 139 ++ ramp 1898 4 137 ++ ramp 834 0 0 ++ ramp 109 22 139 ++ ramp 3580 110 123 ++ ramp 407 0 0 ++ ramp 1271 192 77 ++ ramp 2825 0 0; head = (57 ∷ 128 ∷ 205 ∷ 228 ∷ 135 ∷ 178 ∷ 162 ∷ 58 ∷ 26 ∷ 12 ∷ 137 ∷ 161 ∷ 209 ∷ 160 ∷ 182 ∷ 171 ∷ 0 ∷ 2 ∷ 0 ∷ 0 ∷ 0 ∷ 0 ∷ 2 ∷ 0 ∷ 0 ∷ 16 ∷ 0 ∷ 2 ∷ []); cards = ramp 7 0 0 ++ (1 ∷ []) ++ ramp 6 0 0 ++ (60 ∷ 211 ∷ 255 ∷ 255 ∷ 255 ∷ 254 ∷ 64 ∷ 0 ∷ 0 ∷ 0 ∷ 15 ∷ 161 ∷ 4 ∷ 41 ∷ 70 ∷ 243 ∷ 131 ∷ 92 ∷ 0 ∷ 0 ∷ 0 ∷ 0 ∷ 43 ∷ 2 ∷ 8 ∷ 142 ∷ 112 ∷ 39 ∷ 180 ∷ 144 ∷ []) ++ ramp 11 0 0 ++ (255 ∷ []) ++ ramp 6 0 0 ++ (32 ∷ 2 ∷ []) ++ ramp 8 0 0 ++ (30 ∷ 207 ∷ 84 ∷ 251 ∷ 205 ∷ 236 ∷ 220 ∷ 90 ∷ 0 ∷ 0 ∷ 0 ∷ 1 ∷ 55 ∷ 37 ∷ 236 ∷ 93 ∷ 59 ∷ 153 ∷ 232 ∷ 48 ∷ []) ++ ramp 52 0 0; extents = ramp 7 0 0 ++ (1 ∷ 3 ∷ []) ++ ramp 16 0 0 ++ (1 ∷ []) ++ ramp 1921 0 0; groups = ramp 7 0 0 ++ (1 ∷ 4 ∷ []) ++ ramp 8 0 0 ++ (1 ∷ []) ++ ramp 31 0 0 ++ (54 ∷ 241 ∷ 49 ∷ 109 ∷ []) ++ ramp 1027 0 0 ++ (255 ∷ 4 ∷ []) ++ ramp 8 0 0 ++ (1 ∷ []) ++ ramp 31 0 0 ++ (128 ∷ 122 ∷ 163 ∷ 227 ∷ []) ++ ramp 2093 0 0; used = (5 ∷ []) ++ ramp 7 0 0; retired = ramp 8 0 0 }

pub entry304 : call (enter 255 (time 9223372036854775807 999999999)) before304 ≡ record { number = 4; count = 0; store = before304; out = [] }
unfolding opened ramp before304
entry304 = refl

-- entry 352, fresh: accepted
pub before352 : Store
before352 = record { image = ramp 20480 0 0; head = ramp 28 0 0; cards = ramp 144 0 0; extents = ramp 99 0 0; groups = ramp 3219 0 0; used = ramp 8 0 0; retired = ramp 8 0 0 }

pub after352 : Store
after352 = record { image = ramp 20480 0 0; head = (135 ∷ 91 ∷ 66 ∷ 97 ∷ 171 ∷ 229 ∷ 69 ∷ 150 ∷ 33 ∷ 78 ∷ 255 ∷ 74 ∷ 201 ∷ 244 ∷ 203 ∷ 125 ∷ 0 ∷ 2 ∷ 128 ∷ []) ++ ramp 9 0 0; cards = ramp 144 0 0; extents = ramp 99 0 0; groups = ramp 3219 0 0; used = ramp 8 0 0; retired = ramp 8 0 0 }

pub entry352 : call (fresh ((135 ∷ 91 ∷ 66 ∷ 97 ∷ 171 ∷ 229 ∷ 69 ∷ 150 ∷ 33 ∷ 78 ∷ 255 ∷ 74 ∷ 201 ∷ 244 ∷ 203 ∷ 125 ∷ [])) 0) before352 ≡ record { number = 0; count = 0; store = after352; out = [] }
unfolding opened ramp before352 after352
entry352 = refl

-- entry 359, write: accepted
pub before359 : Store
before359 = record { image = ramp 3232 0 0 ++ ramp 3875 237 0 ++ ramp 1085 0 0 ++ ramp 1365 237 0 ++ ramp 2625 50 249 ++ ramp 5566 236 21 ++ ramp 2732 0 0; head = (135 ∷ 91 ∷ 66 ∷ 97 ∷ 171 ∷ 229 ∷ 69 ∷ 150 ∷ 33 ∷ 78 ∷ 255 ∷ 74 ∷ 201 ∷ 244 ∷ 203 ∷ 125 ∷ 0 ∷ 2 ∷ 128 ∷ 0 ∷ 0 ∷ 0 ∷ 2 ∷ 0 ∷ 0 ∷ 32 ∷ 0 ∷ 1 ∷ []); cards = ramp 24 0 0 ++ (8 ∷ 210 ∷ 50 ∷ 162 ∷ 175 ∷ 216 ∷ 117 ∷ 88 ∷ 0 ∷ 0 ∷ 0 ∷ 0 ∷ 70 ∷ 145 ∷ 149 ∷ 21 ∷ 126 ∷ 195 ∷ 170 ∷ 192 ∷ []) ++ ramp 11 0 0 ++ (7 ∷ []) ++ ramp 6 0 0 ++ (106 ∷ 168 ∷ 0 ∷ 0 ∷ 0 ∷ 1 ∷ 63 ∷ []) ++ ramp 7 255 0 ++ (236 ∷ 24 ∷ 177 ∷ 100 ∷ 0 ∷ 0 ∷ 0 ∷ 2 ∷ 197 ∷ 213 ∷ 129 ∷ 77 ∷ 250 ∷ 35 ∷ 18 ∷ 16 ∷ []) ++ ramp 52 0 0; extents = ramp 7 0 0 ++ (7 ∷ 3 ∷ []) ++ ramp 16 0 0 ++ (1 ∷ []) ++ ramp 14 0 0 ++ (7 ∷ 3 ∷ []) ++ ramp 7 0 0 ++ (1 ∷ 2 ∷ []) ++ ramp 7 0 0 ++ (3 ∷ []) ++ ramp 40 0 0; groups = ramp 7 0 0 ++ (7 ∷ 4 ∷ []) ++ ramp 8 0 0 ++ (1 ∷ []) ++ ramp 31 0 0 ++ (159 ∷ 165 ∷ 12 ∷ 131 ∷ []) ++ ramp 3166 0 0; used = (29 ∷ []) ++ ramp 7 0 0; retired = ramp 8 0 0 }

pub after359 : Store
after359 = record { image = ramp 3232 0 0 ++ ramp 864 237 0 ++ ramp 1452 147 87 ++ ramp 2644 0 0 ++ ramp 1365 237 0 ++ ramp 2625 50 249 ++ ramp 5566 236 21 ++ ramp 2732 0 0; head = (135 ∷ 91 ∷ 66 ∷ 97 ∷ 171 ∷ 229 ∷ 69 ∷ 150 ∷ 33 ∷ 78 ∷ 255 ∷ 74 ∷ 201 ∷ 244 ∷ 203 ∷ 125 ∷ 0 ∷ 2 ∷ 128 ∷ 0 ∷ 0 ∷ 0 ∷ 2 ∷ 0 ∷ 0 ∷ 48 ∷ 0 ∷ 2 ∷ []); cards = ramp 14 0 0 ++ (11 ∷ 88 ∷ 0 ∷ 0 ∷ 0 ∷ 0 ∷ 64 ∷ 0 ∷ 0 ∷ 0 ∷ 108 ∷ 148 ∷ 70 ∷ 195 ∷ 34 ∷ 207 ∷ 22 ∷ 90 ∷ 0 ∷ 0 ∷ 0 ∷ 0 ∷ 70 ∷ 145 ∷ 149 ∷ 21 ∷ 126 ∷ 195 ∷ 170 ∷ 192 ∷ []) ++ ramp 11 0 0 ++ (7 ∷ []) ++ ramp 6 0 0 ++ (106 ∷ 168 ∷ 0 ∷ 0 ∷ 0 ∷ 1 ∷ 63 ∷ []) ++ ramp 7 255 0 ++ (236 ∷ 24 ∷ 177 ∷ 100 ∷ 0 ∷ 0 ∷ 0 ∷ 2 ∷ 197 ∷ 213 ∷ 129 ∷ 77 ∷ 250 ∷ 35 ∷ 18 ∷ 16 ∷ []) ++ ramp 52 0 0; extents = ramp 8 0 0 ++ (3 ∷ []) ++ ramp 8 0 0 ++ (1 ∷ []) ++ ramp 7 0 0 ++ (1 ∷ []) ++ ramp 14 0 0 ++ (7 ∷ 3 ∷ []) ++ ramp 16 0 0 ++ (1 ∷ []) ++ ramp 14 0 0 ++ (7 ∷ 3 ∷ []) ++ ramp 7 0 0 ++ (1 ∷ 2 ∷ []) ++ ramp 7 0 0 ++ (3 ∷ []) ++ ramp 7 0 0; groups = ramp 8 0 0 ++ (4 ∷ []) ++ ramp 8 0 0 ++ (1 ∷ []) ++ ramp 31 0 0 ++ (121 ∷ 224 ∷ 191 ∷ 214 ∷ []) ++ ramp 1027 0 0 ++ (7 ∷ 4 ∷ []) ++ ramp 8 0 0 ++ (1 ∷ []) ++ ramp 31 0 0 ++ (159 ∷ 165 ∷ 12 ∷ 131 ∷ []) ++ ramp 2093 0 0; used = (31 ∷ []) ++ ramp 7 0 0; retired = ramp 8 0 0 }

pub entry359 : call (write 0 0 (ramp 1452 147 87) (time 3643313542 291998509)) before359 ≡ record { number = 0; count = 1452; store = after359; out = [] }
unfolding opened ramp before359 after359
entry359 = refl

-- entry 363, fill: accepted
pub before363 : Store
before363 = record { image = ramp 3232 0 0 ++ ramp 864 237 0 ++ ramp 1452 147 87 ++ ramp 2644 0 0 ++ ramp 1365 237 0 ++ ramp 2625 50 249 ++ ramp 5566 236 21 ++ ramp 2732 0 0; head = (135 ∷ 91 ∷ 66 ∷ 97 ∷ 171 ∷ 229 ∷ 69 ∷ 150 ∷ 33 ∷ 78 ∷ 255 ∷ 74 ∷ 201 ∷ 244 ∷ 203 ∷ 125 ∷ 0 ∷ 2 ∷ 128 ∷ 0 ∷ 0 ∷ 0 ∷ 2 ∷ 0 ∷ 0 ∷ 48 ∷ 0 ∷ 2 ∷ []); cards = ramp 14 0 0 ++ (11 ∷ 88 ∷ 0 ∷ 0 ∷ 0 ∷ 0 ∷ 64 ∷ 0 ∷ 0 ∷ 0 ∷ 108 ∷ 148 ∷ 70 ∷ 195 ∷ 34 ∷ 207 ∷ 22 ∷ 90 ∷ 0 ∷ 0 ∷ 0 ∷ 0 ∷ 70 ∷ 145 ∷ 149 ∷ 21 ∷ 126 ∷ 195 ∷ 170 ∷ 192 ∷ []) ++ ramp 11 0 0 ++ (7 ∷ []) ++ ramp 6 0 0 ++ (106 ∷ 168 ∷ 0 ∷ 0 ∷ 0 ∷ 1 ∷ 63 ∷ []) ++ ramp 7 255 0 ++ (236 ∷ 24 ∷ 177 ∷ 100 ∷ 0 ∷ 0 ∷ 0 ∷ 2 ∷ 197 ∷ 213 ∷ 129 ∷ 77 ∷ 250 ∷ 35 ∷ 18 ∷ 16 ∷ []) ++ ramp 52 0 0; extents = ramp 8 0 0 ++ (3 ∷ []) ++ ramp 8 0 0 ++ (1 ∷ []) ++ ramp 7 0 0 ++ (1 ∷ []) ++ ramp 14 0 0 ++ (7 ∷ 3 ∷ []) ++ ramp 16 0 0 ++ (1 ∷ []) ++ ramp 14 0 0 ++ (7 ∷ 3 ∷ []) ++ ramp 7 0 0 ++ (1 ∷ 2 ∷ []) ++ ramp 7 0 0 ++ (3 ∷ []) ++ ramp 7 0 0; groups = ramp 8 0 0 ++ (4 ∷ []) ++ ramp 8 0 0 ++ (1 ∷ []) ++ ramp 31 0 0 ++ (121 ∷ 224 ∷ 191 ∷ 214 ∷ []) ++ ramp 1027 0 0 ++ (7 ∷ 4 ∷ []) ++ ramp 8 0 0 ++ (1 ∷ []) ++ ramp 31 0 0 ++ (159 ∷ 165 ∷ 12 ∷ 131 ∷ []) ++ ramp 2093 0 0; used = (31 ∷ []) ++ ramp 7 0 0; retired = ramp 8 0 0 }

pub entry363 : call (look (fill)) before363 ≡ record { number = 0; count = 1000; store = before363; out = [] }
unfolding opened ramp before363
entry363 = refl

-- entry 364, fill: accepted
pub before364 : Store
before364 = record { image = ramp 3232 0 0 ++ ramp 864 237 0 ++ ramp 1452 147 87 ++ ramp 2644 0 0 ++ ramp 1365 237 0 ++ ramp 2625 50 249 ++ ramp 5566 236 21 ++ ramp 2732 0 0; head = (135 ∷ 91 ∷ 66 ∷ 97 ∷ 171 ∷ 229 ∷ 69 ∷ 150 ∷ 33 ∷ 78 ∷ 255 ∷ 74 ∷ 201 ∷ 244 ∷ 203 ∷ 125 ∷ 0 ∷ 2 ∷ 128 ∷ 0 ∷ 0 ∷ 0 ∷ 2 ∷ 0 ∷ 0 ∷ 48 ∷ 0 ∷ 2 ∷ []); cards = ramp 14 0 0 ++ (11 ∷ 88 ∷ 0 ∷ 0 ∷ 0 ∷ 0 ∷ 64 ∷ 0 ∷ 0 ∷ 0 ∷ 108 ∷ 148 ∷ 70 ∷ 195 ∷ 34 ∷ 207 ∷ 22 ∷ 90 ∷ 0 ∷ 0 ∷ 0 ∷ 0 ∷ 70 ∷ 145 ∷ 149 ∷ 21 ∷ 126 ∷ 195 ∷ 170 ∷ 192 ∷ []) ++ ramp 11 0 0 ++ (7 ∷ []) ++ ramp 6 0 0 ++ (106 ∷ 168 ∷ 0 ∷ 0 ∷ 0 ∷ 1 ∷ 63 ∷ []) ++ ramp 7 255 0 ++ (236 ∷ 24 ∷ 177 ∷ 100 ∷ 0 ∷ 0 ∷ 0 ∷ 2 ∷ 197 ∷ 213 ∷ 129 ∷ 77 ∷ 250 ∷ 35 ∷ 18 ∷ 16 ∷ []) ++ ramp 52 0 0; extents = ramp 8 0 0 ++ (3 ∷ []) ++ ramp 8 0 0 ++ (1 ∷ []) ++ ramp 7 0 0 ++ (1 ∷ []) ++ ramp 14 0 0 ++ (7 ∷ 3 ∷ []) ++ ramp 16 0 0 ++ (1 ∷ []) ++ ramp 14 0 0 ++ (7 ∷ 3 ∷ []) ++ ramp 7 0 0 ++ (1 ∷ 2 ∷ []) ++ ramp 7 0 0 ++ (3 ∷ []) ++ ramp 7 0 0; groups = ramp 8 0 0 ++ (4 ∷ []) ++ ramp 8 0 0 ++ (1 ∷ []) ++ ramp 31 0 0 ++ (121 ∷ 224 ∷ 191 ∷ 214 ∷ []) ++ ramp 1027 0 0 ++ (7 ∷ 4 ∷ []) ++ ramp 8 0 0 ++ (1 ∷ []) ++ ramp 31 0 0 ++ (159 ∷ 165 ∷ 12 ∷ 131 ∷ []) ++ ramp 2093 0 0; used = (31 ∷ []) ++ ramp 7 0 0; retired = ramp 8 0 0 }

pub entry364 : call (look (fill)) before364 ≡ record { number = 0; count = 1000; store = before364; out = [] }
unfolding opened ramp before364
entry364 = refl

-- entry 516, write: accepted
pub before516 : Store
before516 = record { image = ramp 4096 0 0; head = (4 ∷ 70 ∷ 102 ∷ 148 ∷ 65 ∷ 248 ∷ 192 ∷ 237 ∷ 224 ∷ 61 ∷ 101 ∷ 221 ∷ 60 ∷ 8 ∷ 145 ∷ 37 ∷ 0 ∷ 0 ∷ 128 ∷ 0 ∷ 0 ∷ 0 ∷ 2 ∷ 0 ∷ 0 ∷ 0 ∷ 0 ∷ 0 ∷ []); cards = ramp 7 0 0 ++ (1 ∷ []) ++ ramp 16 0 0 ++ (36 ∷ 221 ∷ 132 ∷ 182 ∷ 114 ∷ 150 ∷ 182 ∷ 196 ∷ 0 ∷ 0 ∷ 0 ∷ 1 ∷ 38 ∷ 236 ∷ 37 ∷ 179 ∷ 148 ∷ 181 ∷ 182 ∷ 32 ∷ 0 ∷ 0 ∷ 0 ∷ 0 ∷ []) ++ ramp 8 255 0 ++ ramp 16 0 0 ++ (96 ∷ 229 ∷ 200 ∷ 238 ∷ 65 ∷ 89 ∷ 152 ∷ 32 ∷ 0 ∷ 0 ∷ 0 ∷ 1 ∷ 61 ∷ 58 ∷ 232 ∷ 255 ∷ 185 ∷ 172 ∷ 159 ∷ 240 ∷ []) ++ ramp 100 0 0; extents = ramp 1419 0 0; groups = ramp 3219 0 0; used = ramp 8 0 0; retired = ramp 8 0 0 }

pub after516 : Store
after516 = record { image = ramp 886 157 127 ++ ramp 3210 0 0; head = (4 ∷ 70 ∷ 102 ∷ 148 ∷ 65 ∷ 248 ∷ 192 ∷ 237 ∷ 224 ∷ 61 ∷ 101 ∷ 221 ∷ 60 ∷ 8 ∷ 145 ∷ 37 ∷ 0 ∷ 0 ∷ 128 ∷ 0 ∷ 0 ∷ 0 ∷ 2 ∷ 0 ∷ 0 ∷ 16 ∷ 0 ∷ 1 ∷ []); cards = ramp 7 0 0 ++ (1 ∷ []) ++ ramp 6 0 0 ++ (6 ∷ 236 ∷ 0 ∷ 0 ∷ 0 ∷ 0 ∷ 64 ∷ 0 ∷ 0 ∷ 0 ∷ 101 ∷ 135 ∷ 236 ∷ 146 ∷ 21 ∷ 140 ∷ 124 ∷ 228 ∷ 0 ∷ 0 ∷ 0 ∷ 1 ∷ 38 ∷ 236 ∷ 37 ∷ 179 ∷ 148 ∷ 181 ∷ 182 ∷ 32 ∷ 0 ∷ 0 ∷ 0 ∷ 0 ∷ []) ++ ramp 8 255 0 ++ ramp 16 0 0 ++ (96 ∷ 229 ∷ 200 ∷ 238 ∷ 65 ∷ 89 ∷ 152 ∷ 32 ∷ 0 ∷ 0 ∷ 0 ∷ 1 ∷ 61 ∷ 58 ∷ 232 ∷ 255 ∷ 185 ∷ 172 ∷ 159 ∷ 240 ∷ []) ++ ramp 100 0 0; extents = ramp 7 0 0 ++ (1 ∷ 3 ∷ []) ++ ramp 16 0 0 ++ (1 ∷ []) ++ ramp 1393 0 0; groups = ramp 7 0 0 ++ (1 ∷ 4 ∷ []) ++ ramp 8 0 0 ++ (1 ∷ []) ++ ramp 31 0 0 ++ (21 ∷ 13 ∷ 219 ∷ 8 ∷ []) ++ ramp 3166 0 0; used = (1 ∷ []) ++ ramp 7 0 0; retired = ramp 8 0 0 }

pub entry516 : call (write 1 0 (ramp 886 157 127) (time 3406813476 180764274)) before516 ≡ record { number = 0; count = 886; store = after516; out = [] }
unfolding opened ramp before516 after516
entry516 = refl

-- entry 520, grow: refused by 13
pub before520 : Store
before520 = record { image = ramp 886 157 127 ++ ramp 3210 0 0; head = (4 ∷ 70 ∷ 102 ∷ 148 ∷ 65 ∷ 248 ∷ 192 ∷ 237 ∷ 224 ∷ 61 ∷ 101 ∷ 221 ∷ 60 ∷ 8 ∷ 145 ∷ 37 ∷ 0 ∷ 0 ∷ 128 ∷ 0 ∷ 0 ∷ 0 ∷ 2 ∷ 0 ∷ 0 ∷ 16 ∷ 0 ∷ 1 ∷ []); cards = ramp 7 0 0 ++ (1 ∷ []) ++ ramp 6 0 0 ++ (6 ∷ 236 ∷ 0 ∷ 0 ∷ 0 ∷ 0 ∷ 64 ∷ 0 ∷ 0 ∷ 0 ∷ 101 ∷ 135 ∷ 236 ∷ 146 ∷ 21 ∷ 140 ∷ 124 ∷ 228 ∷ 0 ∷ 0 ∷ 0 ∷ 1 ∷ 38 ∷ 236 ∷ 37 ∷ 179 ∷ 148 ∷ 181 ∷ 182 ∷ 32 ∷ 0 ∷ 0 ∷ 0 ∷ 0 ∷ []) ++ ramp 8 255 0 ++ ramp 16 0 0 ++ (96 ∷ 229 ∷ 200 ∷ 238 ∷ 65 ∷ 89 ∷ 152 ∷ 32 ∷ 0 ∷ 0 ∷ 0 ∷ 1 ∷ 61 ∷ 58 ∷ 232 ∷ 255 ∷ 185 ∷ 172 ∷ 159 ∷ 240 ∷ []) ++ ramp 100 0 0; extents = ramp 7 0 0 ++ (1 ∷ 3 ∷ []) ++ ramp 16 0 0 ++ (1 ∷ []) ++ ramp 1393 0 0; groups = ramp 7 0 0 ++ (1 ∷ 4 ∷ []) ++ ramp 8 0 0 ++ (1 ∷ []) ++ ramp 31 0 0 ++ (21 ∷ 13 ∷ 219 ∷ 8 ∷ []) ++ ramp 3166 0 0; used = (1 ∷ []) ++ ramp 7 0 0; retired = ramp 8 0 0 }

pub entry520 : call (grow 1 4095 (time 3270157580 339050070)) before520 ≡ record { number = 13; count = 0; store = before520; out = [] }
unfolding opened ramp before520
entry520 = refl

-- entry 524, write: refused by 11
pub before524 : Store
before524 = record { image = ramp 886 157 127 ++ ramp 3209 0 0 ++ (128 ∷ []); head = (4 ∷ 70 ∷ 102 ∷ 148 ∷ 65 ∷ 248 ∷ 192 ∷ 237 ∷ 224 ∷ 61 ∷ 101 ∷ 221 ∷ 60 ∷ 8 ∷ 145 ∷ 37 ∷ 0 ∷ 0 ∷ 128 ∷ 0 ∷ 0 ∷ 0 ∷ 2 ∷ 0 ∷ 0 ∷ 16 ∷ 0 ∷ 1 ∷ []); cards = ramp 7 0 0 ++ (1 ∷ []) ++ ramp 6 0 0 ++ (6 ∷ 236 ∷ 0 ∷ 0 ∷ 0 ∷ 0 ∷ 64 ∷ 0 ∷ 0 ∷ 0 ∷ 101 ∷ 135 ∷ 236 ∷ 146 ∷ 21 ∷ 140 ∷ 124 ∷ 228 ∷ 0 ∷ 0 ∷ 0 ∷ 0 ∷ 14 ∷ 103 ∷ 244 ∷ 214 ∷ 9 ∷ 199 ∷ 249 ∷ 112 ∷ 0 ∷ 0 ∷ 0 ∷ 0 ∷ []) ++ ramp 8 255 0 ++ ramp 16 0 0 ++ (96 ∷ 229 ∷ 200 ∷ 238 ∷ 65 ∷ 89 ∷ 152 ∷ 32 ∷ 0 ∷ 0 ∷ 0 ∷ 1 ∷ 61 ∷ 58 ∷ 232 ∷ 255 ∷ 185 ∷ 172 ∷ 159 ∷ 240 ∷ []) ++ ramp 100 0 0; extents = ramp 7 0 0 ++ (1 ∷ 3 ∷ []) ++ ramp 16 0 0 ++ (1 ∷ []) ++ ramp 1393 0 0; groups = ramp 7 0 0 ++ (1 ∷ 4 ∷ []) ++ ramp 8 0 0 ++ (1 ∷ []) ++ ramp 31 0 0 ++ (21 ∷ 13 ∷ 219 ∷ 8 ∷ []) ++ ramp 3166 0 0; used = (1 ∷ []) ++ ramp 7 0 0; retired = ramp 8 0 0 }

pub entry524 : call (write 1 10 ((163 ∷ [])) (time 966236835 624875280)) before524 ≡ record { number = 11; count = 0; store = before524; out = [] }
unfolding opened ramp before524
entry524 = refl

-- entry 590, enter: refused by 8
pub before590 : Store
before590 = record { image = ramp 20480 0 0; head = (235 ∷ 191 ∷ 198 ∷ 215 ∷ 4 ∷ 237 ∷ 217 ∷ 10 ∷ 143 ∷ 219 ∷ 223 ∷ 248 ∷ 205 ∷ 39 ∷ 159 ∷ 65 ∷ 0 ∷ 2 ∷ 128 ∷ 0 ∷ 0 ∷ 0 ∷ 1 ∷ 0 ∷ 0 ∷ 0 ∷ 0 ∷ 0 ∷ []); cards = ramp 7 0 0 ++ (1 ∷ []) ++ ramp 16 0 0 ++ (115 ∷ 247 ∷ 112 ∷ 238 ∷ 247 ∷ 53 ∷ 147 ∷ 254 ∷ 0 ∷ 0 ∷ 0 ∷ 3 ∷ 159 ∷ 187 ∷ 135 ∷ 119 ∷ 185 ∷ 172 ∷ 159 ∷ 240 ∷ 0 ∷ 0 ∷ 0 ∷ 0 ∷ []); extents = ramp 1353 0 0; groups = ramp 3219 0 0; used = ramp 8 0 0; retired = ramp 8 0 0 }

pub entry590 : call (enter 18446744073709551614 (time 651479961 773422622)) before590 ≡ record { number = 8; count = 0; store = before590; out = [] }
unfolding opened ramp before590
entry590 = refl

-- entry 1250, write: refused by 15
pub before1250 : Store
before1250 = record { image = ramp 24576 0 0; head = (232 ∷ 247 ∷ 99 ∷ 130 ∷ 91 ∷ 20 ∷ 147 ∷ 189 ∷ 185 ∷ 135 ∷ 227 ∷ 218 ∷ 174 ∷ 144 ∷ 7 ∷ 93 ∷ 0 ∷ 3 ∷ 0 ∷ 0 ∷ 0 ∷ 0 ∷ 2 ∷ 0 ∷ 0 ∷ 0 ∷ 0 ∷ 0 ∷ []); cards = ramp 7 0 0 ++ (7 ∷ []) ++ ramp 16 0 0 ++ (69 ∷ 93 ∷ 215 ∷ 0 ∷ 247 ∷ 53 ∷ 147 ∷ 254 ∷ 0 ∷ 0 ∷ 0 ∷ 2 ∷ 42 ∷ 238 ∷ 184 ∷ 7 ∷ 185 ∷ 172 ∷ 159 ∷ 240 ∷ []) ++ ramp 11 0 0 ++ (8 ∷ []) ++ ramp 16 0 0 ++ (118 ∷ 243 ∷ 106 ∷ 83 ∷ 228 ∷ 9 ∷ 91 ∷ 98 ∷ 0 ∷ 0 ∷ 0 ∷ 3 ∷ 183 ∷ 155 ∷ 82 ∷ 159 ∷ 32 ∷ 74 ∷ 219 ∷ 16 ∷ 0 ∷ 0 ∷ 0 ∷ 0 ∷ []); extents = ramp 2409 0 0; groups = []; used = ramp 8 0 0; retired = ramp 8 0 0 }

pub entry1250 : call (write 8 0 ((65 ∷ [])) (time 3511842474 999999999)) before1250 ≡ record { number = 15; count = 0; store = before1250; out = [] }
unfolding opened ramp before1250
entry1250 = refl

-- entry 1254, write: refused by 15
pub before1254 : Store
before1254 = record { image = ramp 24576 0 0; head = (232 ∷ 247 ∷ 99 ∷ 130 ∷ 91 ∷ 20 ∷ 147 ∷ 189 ∷ 185 ∷ 135 ∷ 227 ∷ 218 ∷ 174 ∷ 144 ∷ 7 ∷ 93 ∷ 0 ∷ 3 ∷ 0 ∷ 0 ∷ 0 ∷ 0 ∷ 2 ∷ 0 ∷ 0 ∷ 0 ∷ 0 ∷ 0 ∷ []); cards = ramp 7 0 0 ++ (7 ∷ []) ++ ramp 16 0 0 ++ (69 ∷ 93 ∷ 215 ∷ 0 ∷ 247 ∷ 53 ∷ 147 ∷ 254 ∷ 0 ∷ 0 ∷ 0 ∷ 3 ∷ 116 ∷ 118 ∷ 86 ∷ 62 ∷ 216 ∷ 255 ∷ 167 ∷ 16 ∷ []) ++ ramp 11 0 0 ++ (8 ∷ []) ++ ramp 16 0 0 ++ (118 ∷ 243 ∷ 106 ∷ 83 ∷ 228 ∷ 9 ∷ 91 ∷ 98 ∷ 0 ∷ 0 ∷ 0 ∷ 3 ∷ 105 ∷ 34 ∷ 171 ∷ 53 ∷ 188 ∷ 44 ∷ 89 ∷ 0 ∷ 0 ∷ 0 ∷ 0 ∷ 0 ∷ []); extents = ramp 2409 0 0; groups = []; used = ramp 8 0 0; retired = ramp 8 0 0 }

pub entry1254 : call (write 7 0 (ramp 5890 64 217 ++ ramp 6398 174 63) (time 3144725694 720545168)) before1254 ≡ record { number = 15; count = 0; store = before1254; out = [] }
unfolding opened ramp before1254
entry1254 = refl

-- entry 1255, write: refused by 7
pub before1255 : Store
before1255 = record { image = ramp 24576 0 0; head = (232 ∷ 247 ∷ 99 ∷ 130 ∷ 91 ∷ 20 ∷ 147 ∷ 189 ∷ 185 ∷ 135 ∷ 227 ∷ 218 ∷ 174 ∷ 144 ∷ 7 ∷ 93 ∷ 0 ∷ 3 ∷ 0 ∷ 0 ∷ 0 ∷ 0 ∷ 2 ∷ 0 ∷ 0 ∷ 0 ∷ 0 ∷ 0 ∷ []); cards = ramp 7 0 0 ++ (7 ∷ []) ++ ramp 16 0 0 ++ (69 ∷ 93 ∷ 215 ∷ 0 ∷ 247 ∷ 53 ∷ 147 ∷ 254 ∷ 0 ∷ 0 ∷ 0 ∷ 3 ∷ 116 ∷ 118 ∷ 86 ∷ 62 ∷ 216 ∷ 255 ∷ 167 ∷ 16 ∷ []) ++ ramp 11 0 0 ++ (8 ∷ []) ++ ramp 16 0 0 ++ (118 ∷ 243 ∷ 106 ∷ 83 ∷ 228 ∷ 9 ∷ 91 ∷ 98 ∷ 0 ∷ 0 ∷ 0 ∷ 3 ∷ 105 ∷ 34 ∷ 171 ∷ 53 ∷ 188 ∷ 44 ∷ 89 ∷ 0 ∷ 0 ∷ 0 ∷ 0 ∷ 0 ∷ []); extents = ramp 2409 0 0; groups = []; used = ramp 8 0 0; retired = ramp 8 0 0 }

pub entry1255 : call (write 7 0 (ramp 1149 219 1 ++ ramp 1231 19 61) (time 2661907904 1000000000)) before1255 ≡ record { number = 7; count = 0; store = before1255; out = [] }
unfolding opened ramp before1255
entry1255 = refl

-- entry 1261, enter: refused by 8
pub before1261 : Store
before1261 = record { image = ramp 24576 0 0; head = (232 ∷ 247 ∷ 99 ∷ 130 ∷ 91 ∷ 20 ∷ 147 ∷ 189 ∷ 185 ∷ 135 ∷ 227 ∷ 218 ∷ 174 ∷ 144 ∷ 7 ∷ 93 ∷ 0 ∷ 3 ∷ 0 ∷ 0 ∷ 0 ∷ 0 ∷ 2 ∷ 0 ∷ 0 ∷ 0 ∷ 0 ∷ 0 ∷ []); cards = ramp 7 0 0 ++ (7 ∷ []) ++ ramp 16 0 0 ++ (69 ∷ 93 ∷ 215 ∷ 0 ∷ 247 ∷ 53 ∷ 147 ∷ 254 ∷ 0 ∷ 0 ∷ 0 ∷ 3 ∷ 116 ∷ 118 ∷ 86 ∷ 62 ∷ 216 ∷ 255 ∷ 167 ∷ 16 ∷ []) ++ ramp 11 0 0 ++ (8 ∷ []) ++ ramp 16 0 0 ++ (118 ∷ 243 ∷ 106 ∷ 83 ∷ 228 ∷ 9 ∷ 91 ∷ 98 ∷ 0 ∷ 0 ∷ 0 ∷ 3 ∷ 105 ∷ 34 ∷ 171 ∷ 53 ∷ 188 ∷ 44 ∷ 89 ∷ 0 ∷ 0 ∷ 0 ∷ 0 ∷ 0 ∷ []); extents = ramp 2409 0 0; groups = []; used = ramp 8 0 0; retired = ramp 8 0 0 }

pub entry1261 : call (enter 1 (time 2261264976 325314496)) before1261 ≡ record { number = 8; count = 0; store = before1261; out = [] }
unfolding opened ramp before1261
entry1261 = refl

-- entry 1264, grow: accepted
pub before1264 : Store
before1264 = record { image = ramp 24576 0 0; head = (232 ∷ 247 ∷ 99 ∷ 130 ∷ 91 ∷ 20 ∷ 147 ∷ 189 ∷ 185 ∷ 135 ∷ 227 ∷ 218 ∷ 174 ∷ 144 ∷ 7 ∷ 93 ∷ 0 ∷ 3 ∷ 0 ∷ 0 ∷ 0 ∷ 0 ∷ 2 ∷ 0 ∷ 0 ∷ 0 ∷ 0 ∷ 0 ∷ []); cards = ramp 7 0 0 ++ (7 ∷ []) ++ ramp 16 0 0 ++ (69 ∷ 93 ∷ 215 ∷ 0 ∷ 247 ∷ 53 ∷ 147 ∷ 254 ∷ 0 ∷ 0 ∷ 0 ∷ 3 ∷ 116 ∷ 118 ∷ 86 ∷ 62 ∷ 216 ∷ 255 ∷ 167 ∷ 16 ∷ []) ++ ramp 11 0 0 ++ (8 ∷ []) ++ ramp 16 0 0 ++ (118 ∷ 243 ∷ 106 ∷ 83 ∷ 228 ∷ 9 ∷ 91 ∷ 98 ∷ 0 ∷ 0 ∷ 0 ∷ 3 ∷ 105 ∷ 34 ∷ 171 ∷ 53 ∷ 188 ∷ 44 ∷ 89 ∷ 0 ∷ 0 ∷ 0 ∷ 0 ∷ 0 ∷ []); extents = ramp 2409 0 0; groups = []; used = ramp 8 0 0; retired = ramp 8 0 0 }

pub after1264 : Store
after1264 = record { image = ramp 24576 0 0; head = (232 ∷ 247 ∷ 99 ∷ 130 ∷ 91 ∷ 20 ∷ 147 ∷ 189 ∷ 185 ∷ 135 ∷ 227 ∷ 218 ∷ 174 ∷ 144 ∷ 7 ∷ 93 ∷ 0 ∷ 3 ∷ 0 ∷ 0 ∷ 0 ∷ 0 ∷ 2 ∷ 0 ∷ 0 ∷ 0 ∷ 0 ∷ 0 ∷ []); cards = ramp 7 0 0 ++ (7 ∷ []) ++ ramp 7 0 0 ++ (20 ∷ []) ++ ramp 8 0 0 ++ (115 ∷ 226 ∷ 253 ∷ 136 ∷ 247 ∷ 53 ∷ 147 ∷ 254 ∷ 0 ∷ 0 ∷ 0 ∷ 3 ∷ 116 ∷ 118 ∷ 86 ∷ 62 ∷ 216 ∷ 255 ∷ 167 ∷ 16 ∷ []) ++ ramp 11 0 0 ++ (8 ∷ []) ++ ramp 16 0 0 ++ (118 ∷ 243 ∷ 106 ∷ 83 ∷ 228 ∷ 9 ∷ 91 ∷ 98 ∷ 0 ∷ 0 ∷ 0 ∷ 3 ∷ 105 ∷ 34 ∷ 171 ∷ 53 ∷ 188 ∷ 44 ∷ 89 ∷ 0 ∷ 0 ∷ 0 ∷ 0 ∷ 0 ∷ []); extents = ramp 2409 0 0; groups = []; used = ramp 8 0 0; retired = ramp 8 0 0 }

pub entry1264 : call (grow 7 10 (time 3888511761 999999999)) before1264 ≡ record { number = 0; count = 0; store = after1264; out = [] }
unfolding opened ramp before1264 after1264
entry1264 = refl

-- entry 2551, write: refused by 3
pub before2551 : Store
before2551 = record { image = ramp 4096 0 0 ++ (22 ∷ []) ++ ramp 4095 0 0 ++ ramp 10 185 129 ++ ramp 1531 220 241 ++ ramp 3390 45 255 ++ ramp 15549 0 0; head = ramp 16 3 0 ++ (0 ∷ 3 ∷ 128 ∷ 0 ∷ 192 ∷ []) ++ ramp 7 0 0; cards = ramp 96 0 0; extents = ramp 1452 0 0; groups = ramp 4292 0 0; used = (7 ∷ []) ++ ramp 7 0 0; retired = ramp 8 0 0 }

pub entry2551 : call (write 255 0 (ramp 1097 185 119 ++ ramp 798 233 87 ++ ramp 2173 224 49) (time 3721915811 317416353)) before2551 ≡ record { number = 3; count = 0; store = before2551; out = [] }
unfolding opened ramp before2551
entry2551 = refl

-- entry 2552, read: refused by 3
pub before2552 : Store
before2552 = record { image = ramp 4096 0 0 ++ (22 ∷ []) ++ ramp 4095 0 0 ++ ramp 10 185 129 ++ ramp 1531 220 241 ++ ramp 3390 45 255 ++ ramp 15549 0 0; head = ramp 16 3 0 ++ (0 ∷ 3 ∷ 128 ∷ 0 ∷ 192 ∷ []) ++ ramp 7 0 0; cards = ramp 96 0 0; extents = ramp 1452 0 0; groups = ramp 4292 0 0; used = (7 ∷ []) ++ ramp 7 0 0; retired = ramp 8 0 0 }

pub entry2552 : call (look (read 8 0 (ramp 262144 165 0))) before2552 ≡ record { number = 3; count = 0; store = before2552; out = ramp 262144 165 0 }
unfolding opened ramp before2552
entry2552 = refl

-- entry 2553, write: refused by 3
pub before2553 : Store
before2553 = record { image = ramp 4096 0 0 ++ (22 ∷ []) ++ ramp 4095 0 0 ++ ramp 10 185 129 ++ ramp 1531 220 241 ++ ramp 3390 45 255 ++ ramp 15549 0 0; head = ramp 16 3 0 ++ (0 ∷ 3 ∷ 128 ∷ 0 ∷ 192 ∷ []) ++ ramp 7 0 0; cards = ramp 96 0 0; extents = ramp 1452 0 0; groups = ramp 4292 0 0; used = (7 ∷ []) ++ ramp 7 0 0; retired = ramp 8 0 0 }

pub entry2553 : call (write 8 0 (ramp 4096 210 61) (time 3305561407 128949286)) before2553 ≡ record { number = 3; count = 0; store = before2553; out = [] }
unfolding opened ramp before2553
entry2553 = refl

-- entry 2554, read: refused by 3
pub before2554 : Store
before2554 = record { image = ramp 4096 0 0 ++ (22 ∷ []) ++ ramp 4095 0 0 ++ ramp 10 185 129 ++ ramp 1531 220 241 ++ ramp 3390 45 255 ++ ramp 15549 0 0; head = ramp 16 3 0 ++ (0 ∷ 3 ∷ 128 ∷ 0 ∷ 192 ∷ []) ++ ramp 7 0 0; cards = ramp 96 0 0; extents = ramp 1452 0 0; groups = ramp 4292 0 0; used = (7 ∷ []) ++ ramp 7 0 0; retired = ramp 8 0 0 }

pub entry2554 : call (look (read 0 0 (ramp 655360 165 0))) before2554 ≡ record { number = 3; count = 0; store = before2554; out = ramp 655360 165 0 }
unfolding opened ramp before2554
entry2554 = refl

-- entry 2555, fill: accepted
pub before2555 : Store
before2555 = record { image = ramp 4096 0 0 ++ (22 ∷ []) ++ ramp 4095 0 0 ++ ramp 10 185 129 ++ ramp 1531 220 241 ++ ramp 3390 45 255 ++ ramp 15549 0 0; head = ramp 16 3 0 ++ (0 ∷ 3 ∷ 128 ∷ 0 ∷ 192 ∷ []) ++ ramp 7 0 0; cards = ramp 96 0 0; extents = ramp 1452 0 0; groups = ramp 4292 0 0; used = (7 ∷ []) ++ ramp 7 0 0; retired = ramp 8 0 0 }

pub entry2555 : call (look (fill)) before2555 ≡ record { number = 0; count = 0; store = before2555; out = [] }
unfolding opened ramp before2555
entry2555 = refl

-- entry 2686, write: accepted
pub before2686 : Store
before2686 = record { image = ramp 3377 60 167 ++ ramp 718 226 81 ++ ramp 12289 0 0; head = (0 ∷ 23 ∷ 32 ∷ 207 ∷ 112 ∷ 56 ∷ 55 ∷ 98 ∷ 170 ∷ 184 ∷ 154 ∷ 235 ∷ 119 ∷ 9 ∷ 152 ∷ 117 ∷ 0 ∷ 2 ∷ 0 ∷ 0 ∷ 0 ∷ 0 ∷ 1 ∷ 0 ∷ 0 ∷ 16 ∷ 0 ∷ 1 ∷ []); cards = ramp 7 0 0 ++ (1 ∷ []) ++ ramp 6 0 0 ++ (31 ∷ 254 ∷ 0 ∷ 0 ∷ 0 ∷ 0 ∷ 64 ∷ 0 ∷ 0 ∷ 0 ∷ 66 ∷ 108 ∷ 100 ∷ 187 ∷ 39 ∷ 231 ∷ 213 ∷ 32 ∷ 0 ∷ 0 ∷ 0 ∷ 1 ∷ 192 ∷ 125 ∷ 254 ∷ 212 ∷ 8 ∷ 170 ∷ 216 ∷ 128 ∷ 0 ∷ 0 ∷ 0 ∷ 0 ∷ []); extents = ramp 7 0 0 ++ (1 ∷ 3 ∷ []) ++ ramp 16 0 0 ++ (1 ∷ []) ++ ramp 1921 0 0; groups = ramp 7 0 0 ++ (1 ∷ 4 ∷ []) ++ ramp 8 0 0 ++ (1 ∷ []) ++ ramp 31 0 0 ++ (102 ∷ 67 ∷ 145 ∷ 110 ∷ []) ++ ramp 4239 0 0; used = (1 ∷ []) ++ ramp 7 0 0; retired = ramp 8 0 0 }

pub after2686 : Store
after2686 = record { image = ramp 3377 60 167 ++ ramp 718 226 81 ++ (0 ∷ []) ++ ramp 10 67 245 ++ ramp 3367 194 167 ++ ramp 718 226 81 ++ ramp 8193 0 0; head = (0 ∷ 23 ∷ 32 ∷ 207 ∷ 112 ∷ 56 ∷ 55 ∷ 98 ∷ 170 ∷ 184 ∷ 154 ∷ 235 ∷ 119 ∷ 9 ∷ 152 ∷ 117 ∷ 0 ∷ 2 ∷ 0 ∷ 0 ∷ 0 ∷ 0 ∷ 1 ∷ 0 ∷ 0 ∷ 16 ∷ 0 ∷ 1 ∷ []); cards = ramp 7 0 0 ++ (1 ∷ []) ++ ramp 6 0 0 ++ (31 ∷ 254 ∷ 0 ∷ 0 ∷ 0 ∷ 0 ∷ 64 ∷ 0 ∷ 0 ∷ 0 ∷ 37 ∷ 96 ∷ 164 ∷ 124 ∷ 179 ∷ 13 ∷ 6 ∷ 218 ∷ 0 ∷ 0 ∷ 0 ∷ 1 ∷ 192 ∷ 125 ∷ 254 ∷ 212 ∷ 8 ∷ 170 ∷ 216 ∷ 128 ∷ 0 ∷ 0 ∷ 0 ∷ 0 ∷ []); extents = ramp 7 0 0 ++ (1 ∷ 3 ∷ []) ++ ramp 8 0 0 ++ (1 ∷ []) ++ ramp 7 0 0 ++ (1 ∷ []) ++ ramp 1921 0 0; groups = ramp 7 0 0 ++ (1 ∷ 4 ∷ []) ++ ramp 8 0 0 ++ (1 ∷ []) ++ ramp 31 0 0 ++ (204 ∷ 240 ∷ 140 ∷ 175 ∷ []) ++ ramp 4239 0 0; used = (3 ∷ []) ++ ramp 7 0 0; retired = (1 ∷ []) ++ ramp 7 0 0 }

pub entry2686 : call (write 1 0 (ramp 10 67 245) (time 1254181113 428245869)) before2686 ≡ record { number = 0; count = 10; store = after2686; out = [] }
unfolding opened ramp before2686 after2686
entry2686 = refl

-- entry 2736, write: accepted
pub before2736 : Store
before2736 = record { image = ramp 4096 0 0 ++ (1 ∷ 8 ∷ 15 ∷ 22 ∷ 29 ∷ []) ++ ramp 4091 0 0 ++ (1 ∷ 8 ∷ 15 ∷ 1 ∷ 8 ∷ 15 ∷ 22 ∷ 29 ∷ []) ++ ramp 24568 0 0; head = ramp 16 4 0 ++ (0 ∷ 4 ∷ 0 ∷ 0 ∷ 64 ∷ 0 ∷ 3 ∷ 0 ∷ 0 ∷ 16 ∷ 0 ∷ 1 ∷ []); cards = ramp 7 0 0 ++ (6 ∷ []) ++ ramp 19 0 0 ++ (1 ∷ 128 ∷ 0 ∷ 0 ∷ 12 ∷ []) ++ ramp 7 0 0 ++ (12 ∷ 0 ∷ 0 ∷ 0 ∷ 96 ∷ []) ++ ramp 11 0 0 ++ (7 ∷ []) ++ ramp 7 0 0 ++ (16 ∷ 0 ∷ 0 ∷ 0 ∷ 0 ∷ 64 ∷ []) ++ ramp 6 0 0 ++ (36 ∷ 0 ∷ 0 ∷ 0 ∷ 141 ∷ []) ++ ramp 8 255 0 ++ (185 ∷ 172 ∷ 159 ∷ 240 ∷ []) ++ ramp 11 0 0 ++ (8 ∷ []) ++ ramp 7 0 0 ++ (20 ∷ []) ++ ramp 11 0 0 ++ (40 ∷ 128 ∷ 0 ∷ 0 ∷ 160 ∷ []) ++ ramp 7 0 0 ++ (12 ∷ 0 ∷ 0 ∷ 0 ∷ 128 ∷ []) ++ ramp 52 0 0; extents = ramp 7 0 0 ++ (7 ∷ 3 ∷ []) ++ ramp 8 0 0 ++ (2 ∷ []) ++ ramp 7 0 0 ++ (1 ∷ []) ++ ramp 106 0 0; groups = ramp 7 0 0 ++ (7 ∷ 4 ∷ []) ++ ramp 8 0 0 ++ (1 ∷ []) ++ ramp 31 0 0 ++ (222 ∷ 169 ∷ 77 ∷ 205 ∷ []) ++ ramp 2093 0 0; used = (7 ∷ []) ++ ramp 7 0 0; retired = (2 ∷ []) ++ ramp 7 0 0 }

pub after2736 : Store
after2736 = record { image = ramp 4096 0 0 ++ (1 ∷ 8 ∷ 15 ∷ 22 ∷ 29 ∷ []) ++ ramp 4091 0 0 ++ (1 ∷ 8 ∷ 15 ∷ 1 ∷ 8 ∷ 15 ∷ 22 ∷ 29 ∷ []) ++ ramp 4088 0 0 ++ (1 ∷ 8 ∷ 1 ∷ 8 ∷ 15 ∷ 15 ∷ 22 ∷ 29 ∷ []) ++ ramp 20472 0 0; head = ramp 16 4 0 ++ (0 ∷ 4 ∷ 0 ∷ 0 ∷ 64 ∷ 0 ∷ 3 ∷ 0 ∷ 0 ∷ 16 ∷ 0 ∷ 1 ∷ []); cards = ramp 7 0 0 ++ (6 ∷ []) ++ ramp 19 0 0 ++ (1 ∷ 128 ∷ 0 ∷ 0 ∷ 12 ∷ []) ++ ramp 7 0 0 ++ (12 ∷ 0 ∷ 0 ∷ 0 ∷ 96 ∷ []) ++ ramp 11 0 0 ++ (7 ∷ []) ++ ramp 7 0 0 ++ (16 ∷ 0 ∷ 0 ∷ 0 ∷ 0 ∷ 64 ∷ []) ++ ramp 6 0 0 ++ (2 ∷ 128 ∷ 0 ∷ 0 ∷ 13 ∷ []) ++ ramp 8 255 0 ++ (185 ∷ 172 ∷ 159 ∷ 240 ∷ []) ++ ramp 11 0 0 ++ (8 ∷ []) ++ ramp 7 0 0 ++ (20 ∷ []) ++ ramp 11 0 0 ++ (40 ∷ 128 ∷ 0 ∷ 0 ∷ 160 ∷ []) ++ ramp 7 0 0 ++ (12 ∷ 0 ∷ 0 ∷ 0 ∷ 128 ∷ []) ++ ramp 52 0 0; extents = ramp 7 0 0 ++ (7 ∷ 3 ∷ []) ++ ramp 8 0 0 ++ (3 ∷ []) ++ ramp 7 0 0 ++ (1 ∷ []) ++ ramp 106 0 0; groups = ramp 7 0 0 ++ (7 ∷ 4 ∷ []) ++ ramp 8 0 0 ++ (1 ∷ []) ++ ramp 31 0 0 ++ (130 ∷ 250 ∷ 68 ∷ 32 ∷ []) ++ ramp 2093 0 0; used = (15 ∷ []) ++ ramp 7 0 0; retired = (6 ∷ []) ++ ramp 7 0 0 }

pub entry2736 : call (write 7 2 ((1 ∷ 8 ∷ 15 ∷ [])) (time 5 6)) before2736 ≡ record { number = 0; count = 3; store = after2736; out = [] }
unfolding opened ramp before2736 after2736
entry2736 = refl

-- entry 2737, grow: accepted
pub before2737 : Store
before2737 = record { image = ramp 4096 0 0 ++ (1 ∷ 8 ∷ 15 ∷ 22 ∷ 29 ∷ []) ++ ramp 4091 0 0 ++ (1 ∷ 8 ∷ 15 ∷ 1 ∷ 8 ∷ 15 ∷ 22 ∷ 29 ∷ []) ++ ramp 24568 0 0; head = ramp 16 4 0 ++ (0 ∷ 4 ∷ 0 ∷ 0 ∷ 64 ∷ 0 ∷ 3 ∷ 0 ∷ 0 ∷ 16 ∷ 0 ∷ 1 ∷ []); cards = ramp 7 0 0 ++ (6 ∷ []) ++ ramp 19 0 0 ++ (1 ∷ 128 ∷ 0 ∷ 0 ∷ 12 ∷ []) ++ ramp 7 0 0 ++ (12 ∷ 0 ∷ 0 ∷ 0 ∷ 96 ∷ []) ++ ramp 11 0 0 ++ (7 ∷ []) ++ ramp 7 0 0 ++ (16 ∷ 0 ∷ 0 ∷ 0 ∷ 0 ∷ 64 ∷ []) ++ ramp 6 0 0 ++ (36 ∷ 0 ∷ 0 ∷ 0 ∷ 141 ∷ []) ++ ramp 8 255 0 ++ (185 ∷ 172 ∷ 159 ∷ 240 ∷ []) ++ ramp 11 0 0 ++ (8 ∷ []) ++ ramp 7 0 0 ++ (20 ∷ []) ++ ramp 11 0 0 ++ (40 ∷ 128 ∷ 0 ∷ 0 ∷ 160 ∷ []) ++ ramp 7 0 0 ++ (12 ∷ 0 ∷ 0 ∷ 0 ∷ 128 ∷ []) ++ ramp 52 0 0; extents = ramp 7 0 0 ++ (7 ∷ 3 ∷ []) ++ ramp 8 0 0 ++ (2 ∷ []) ++ ramp 7 0 0 ++ (1 ∷ []) ++ ramp 106 0 0; groups = ramp 7 0 0 ++ (7 ∷ 4 ∷ []) ++ ramp 8 0 0 ++ (1 ∷ []) ++ ramp 31 0 0 ++ (222 ∷ 169 ∷ 77 ∷ 205 ∷ []) ++ ramp 2093 0 0; used = (7 ∷ []) ++ ramp 7 0 0; retired = (2 ∷ []) ++ ramp 7 0 0 }

pub after2737 : Store
after2737 = record { image = ramp 4096 0 0 ++ (1 ∷ 8 ∷ 15 ∷ 22 ∷ 29 ∷ []) ++ ramp 4091 0 0 ++ (1 ∷ 8 ∷ 15 ∷ 1 ∷ 8 ∷ 15 ∷ 22 ∷ 29 ∷ []) ++ ramp 4088 0 0 ++ (1 ∷ 8 ∷ 15 ∷ 1 ∷ 8 ∷ 15 ∷ 22 ∷ 29 ∷ []) ++ ramp 20472 0 0; head = ramp 16 4 0 ++ (0 ∷ 4 ∷ 0 ∷ 0 ∷ 64 ∷ 0 ∷ 3 ∷ 0 ∷ 0 ∷ 16 ∷ 0 ∷ 1 ∷ []); cards = ramp 7 0 0 ++ (6 ∷ []) ++ ramp 19 0 0 ++ (1 ∷ 128 ∷ 0 ∷ 0 ∷ 12 ∷ []) ++ ramp 7 0 0 ++ (12 ∷ 0 ∷ 0 ∷ 0 ∷ 96 ∷ []) ++ ramp 11 0 0 ++ (7 ∷ []) ++ ramp 7 0 0 ++ (40 ∷ 0 ∷ 0 ∷ 0 ∷ 0 ∷ 64 ∷ []) ++ ramp 6 0 0 ++ (2 ∷ 128 ∷ 0 ∷ 0 ∷ 13 ∷ []) ++ ramp 8 255 0 ++ (185 ∷ 172 ∷ 159 ∷ 240 ∷ []) ++ ramp 11 0 0 ++ (8 ∷ []) ++ ramp 7 0 0 ++ (20 ∷ []) ++ ramp 11 0 0 ++ (40 ∷ 128 ∷ 0 ∷ 0 ∷ 160 ∷ []) ++ ramp 7 0 0 ++ (12 ∷ 0 ∷ 0 ∷ 0 ∷ 128 ∷ []) ++ ramp 52 0 0; extents = ramp 7 0 0 ++ (7 ∷ 3 ∷ []) ++ ramp 8 0 0 ++ (3 ∷ []) ++ ramp 7 0 0 ++ (1 ∷ []) ++ ramp 106 0 0; groups = ramp 7 0 0 ++ (7 ∷ 4 ∷ []) ++ ramp 8 0 0 ++ (1 ∷ []) ++ ramp 31 0 0 ++ (6 ∷ 64 ∷ 206 ∷ 43 ∷ []) ++ ramp 2093 0 0; used = (15 ∷ []) ++ ramp 7 0 0; retired = (6 ∷ []) ++ ramp 7 0 0 }

pub entry2737 : call (grow 7 20 (time 5 6)) before2737 ≡ record { number = 0; count = 0; store = after2737; out = [] }
unfolding opened ramp before2737 after2737
entry2737 = refl

-- entry 2740, write: accepted
pub before2740 : Store
before2740 = record { image = ramp 8192 0 0; head = ramp 16 4 0 ++ (0 ∷ 1 ∷ 0 ∷ 0 ∷ 0 ∷ 0 ∷ 1 ∷ 0 ∷ 0 ∷ 0 ∷ 0 ∷ 0 ∷ []); cards = ramp 7 0 0 ++ (7 ∷ []) ++ ramp 7 0 0 ++ (20 ∷ []) ++ ramp 11 0 0 ++ (25 ∷ 0 ∷ 0 ∷ 0 ∷ 120 ∷ []) ++ ramp 64 0 0; extents = ramp 33 0 0; groups = ramp 1073 0 0; used = ramp 8 0 0; retired = ramp 8 0 0 }

pub after2740 : Store
after2740 = record { image = (0 ∷ 0 ∷ 1 ∷ 8 ∷ 15 ∷ []) ++ ramp 8187 0 0; head = ramp 16 4 0 ++ (0 ∷ 1 ∷ 0 ∷ 0 ∷ 0 ∷ 0 ∷ 1 ∷ 0 ∷ 0 ∷ 16 ∷ 0 ∷ 1 ∷ []); cards = ramp 7 0 0 ++ (7 ∷ []) ++ ramp 7 0 0 ++ (20 ∷ 0 ∷ 0 ∷ 0 ∷ 0 ∷ 64 ∷ []) ++ ramp 6 0 0 ++ (2 ∷ 128 ∷ 0 ∷ 0 ∷ 12 ∷ []) ++ ramp 64 0 0; extents = ramp 7 0 0 ++ (7 ∷ 3 ∷ []) ++ ramp 16 0 0 ++ (1 ∷ []) ++ ramp 7 0 0; groups = ramp 7 0 0 ++ (7 ∷ 4 ∷ []) ++ ramp 8 0 0 ++ (1 ∷ []) ++ ramp 31 0 0 ++ (60 ∷ 25 ∷ 29 ∷ 222 ∷ []) ++ ramp 1020 0 0; used = (1 ∷ []) ++ ramp 7 0 0; retired = ramp 8 0 0 }

pub entry2740 : call (write 7 2 ((1 ∷ 8 ∷ 15 ∷ [])) (time 5 6)) before2740 ≡ record { number = 0; count = 3; store = after2740; out = [] }
unfolding opened ramp before2740 after2740
entry2740 = refl

-- entry 2741, grow: accepted
pub before2741 : Store
before2741 = record { image = ramp 8192 0 0; head = ramp 16 4 0 ++ (0 ∷ 1 ∷ 0 ∷ 0 ∷ 0 ∷ 0 ∷ 1 ∷ 0 ∷ 0 ∷ 0 ∷ 0 ∷ 0 ∷ []); cards = ramp 7 0 0 ++ (7 ∷ []) ++ ramp 7 0 0 ++ (20 ∷ []) ++ ramp 11 0 0 ++ (25 ∷ 0 ∷ 0 ∷ 0 ∷ 120 ∷ []) ++ ramp 64 0 0; extents = ramp 33 0 0; groups = ramp 1073 0 0; used = ramp 8 0 0; retired = ramp 8 0 0 }

pub after2741 : Store
after2741 = record { image = ramp 8192 0 0; head = ramp 16 4 0 ++ (0 ∷ 1 ∷ 0 ∷ 0 ∷ 0 ∷ 0 ∷ 1 ∷ 0 ∷ 0 ∷ 0 ∷ 0 ∷ 0 ∷ []); cards = ramp 7 0 0 ++ (7 ∷ []) ++ ramp 7 0 0 ++ (40 ∷ []) ++ ramp 11 0 0 ++ (2 ∷ 128 ∷ 0 ∷ 0 ∷ 12 ∷ []) ++ ramp 64 0 0; extents = ramp 33 0 0; groups = ramp 1073 0 0; used = ramp 8 0 0; retired = ramp 8 0 0 }

pub entry2741 : call (grow 7 20 (time 5 6)) before2741 ≡ record { number = 0; count = 0; store = after2741; out = [] }
unfolding opened ramp before2741 after2741
entry2741 = refl

-- entry 2744, write: refused by 2
pub before2744 : Store
before2744 = record { image = ramp 8192 0 0; head = ramp 16 4 0 ++ (0 ∷ 1 ∷ 0 ∷ 0 ∷ 0 ∷ 0 ∷ 2 ∷ 0 ∷ 0 ∷ 0 ∷ 0 ∷ 0 ∷ []); cards = ramp 7 0 0 ++ (7 ∷ []) ++ ramp 7 0 0 ++ (20 ∷ []) ++ ramp 11 0 0 ++ (25 ∷ 0 ∷ 0 ∷ 0 ∷ 120 ∷ []) ++ ramp 7 0 0 ++ (8 ∷ []) ++ ramp 7 0 0 ++ (20 ∷ []) ++ ramp 11 0 0 ++ (25 ∷ 0 ∷ 0 ∷ 0 ∷ 120 ∷ []) ++ ramp 32 0 0; extents = ramp 33 0 0; groups = ramp 1073 0 0; used = ramp 8 0 0; retired = ramp 8 0 0 }

pub entry2744 : call (write 7 2 ((1 ∷ 8 ∷ 15 ∷ [])) (time 5 6)) before2744 ≡ record { number = 2; count = 0; store = before2744; out = [] }
unfolding opened ramp before2744
entry2744 = refl

-- entry 2745, grow: refused by 1
pub before2745 : Store
before2745 = record { image = ramp 8192 0 0; head = ramp 16 4 0 ++ (0 ∷ 1 ∷ 0 ∷ 0 ∷ 0 ∷ 0 ∷ 3 ∷ 0 ∷ 0 ∷ 0 ∷ 0 ∷ 0 ∷ []); cards = ramp 7 0 0 ++ (7 ∷ []) ++ ramp 7 0 0 ++ (20 ∷ []) ++ ramp 11 0 0 ++ (25 ∷ 0 ∷ 0 ∷ 0 ∷ 120 ∷ []) ++ ramp 7 0 0 ++ (8 ∷ []) ++ ramp 7 0 0 ++ (20 ∷ []) ++ ramp 11 0 0 ++ (25 ∷ 0 ∷ 0 ∷ 0 ∷ 120 ∷ []) ++ ramp 7 0 0 ++ (9 ∷ []) ++ ramp 7 0 0 ++ (20 ∷ []) ++ ramp 11 0 0 ++ (25 ∷ 0 ∷ 0 ∷ 0 ∷ 120 ∷ []); extents = ramp 33 0 0; groups = ramp 1073 0 0; used = ramp 8 0 0; retired = ramp 8 0 0 }

pub entry2745 : call (grow 7 20 (time 5 6)) before2745 ≡ record { number = 1; count = 0; store = before2745; out = [] }
unfolding opened ramp before2745
entry2745 = refl

-- entry 2746, enter: refused by 1
pub before2746 : Store
before2746 = record { image = ramp 8192 0 0; head = ramp 16 4 0 ++ (0 ∷ 1 ∷ 0 ∷ 0 ∷ 0 ∷ 0 ∷ 1 ∷ 0 ∷ 0 ∷ 0 ∷ 0 ∷ 0 ∷ []); cards = ramp 7 0 0 ++ (7 ∷ []) ++ ramp 7 0 0 ++ (20 ∷ []) ++ ramp 11 0 0 ++ (25 ∷ 0 ∷ 0 ∷ 0 ∷ 120 ∷ []) ++ ramp 32 0 0; extents = ramp 33 0 0; groups = ramp 1073 0 0; used = ramp 8 0 0; retired = ramp 8 0 0 }

pub entry2746 : call (enter 9 (time 3 9)) before2746 ≡ record { number = 1; count = 0; store = before2746; out = [] }
unfolding opened ramp before2746
entry2746 = refl

-- entry 2747, fill: refused by 2
pub before2747 : Store
before2747 = record { image = ramp 4096 0 0 ++ (1 ∷ 8 ∷ 15 ∷ 22 ∷ 29 ∷ []) ++ ramp 4091 0 0 ++ (1 ∷ 8 ∷ 15 ∷ 1 ∷ 8 ∷ 15 ∷ 22 ∷ 29 ∷ []) ++ ramp 24568 0 0; head = ramp 16 4 0 ++ (0 ∷ 4 ∷ 0 ∷ 0 ∷ 64 ∷ 0 ∷ 3 ∷ 0 ∷ 0 ∷ 16 ∷ 0 ∷ 1 ∷ []); cards = ramp 7 0 0 ++ (6 ∷ []) ++ ramp 19 0 0 ++ (1 ∷ 128 ∷ 0 ∷ 0 ∷ 12 ∷ []) ++ ramp 7 0 0 ++ (15 ∷ 185 ∷ 172 ∷ 160 ∷ []) ++ ramp 12 0 0 ++ (7 ∷ []) ++ ramp 7 0 0 ++ (16 ∷ 0 ∷ 0 ∷ 0 ∷ 0 ∷ 64 ∷ []) ++ ramp 6 0 0 ++ (36 ∷ 0 ∷ 0 ∷ 0 ∷ 140 ∷ []) ++ ramp 7 0 0 ++ (12 ∷ 0 ∷ 0 ∷ 0 ∷ 112 ∷ []) ++ ramp 11 0 0 ++ (8 ∷ []) ++ ramp 7 0 0 ++ (20 ∷ []) ++ ramp 11 0 0 ++ (40 ∷ 128 ∷ 0 ∷ 0 ∷ 160 ∷ []) ++ ramp 7 0 0 ++ (12 ∷ 0 ∷ 0 ∷ 0 ∷ 128 ∷ []) ++ ramp 52 0 0; extents = ramp 7 0 0 ++ (7 ∷ 3 ∷ []) ++ ramp 8 0 0 ++ (2 ∷ []) ++ ramp 7 0 0 ++ (1 ∷ []) ++ ramp 106 0 0; groups = ramp 7 0 0 ++ (7 ∷ 4 ∷ []) ++ ramp 8 0 0 ++ (1 ∷ []) ++ ramp 31 0 0 ++ (222 ∷ 169 ∷ 77 ∷ 205 ∷ []) ++ ramp 2093 0 0; used = (7 ∷ []) ++ ramp 7 0 0; retired = (2 ∷ []) ++ ramp 7 0 0 }

pub entry2747 : call (look (fill)) before2747 ≡ record { number = 2; count = 0; store = before2747; out = [] }
unfolding opened ramp before2747
entry2747 = refl

-- entry 2748, enter: refused by 2
pub before2748 : Store
before2748 = record { image = ramp 4096 0 0 ++ (1 ∷ 8 ∷ 15 ∷ 22 ∷ 29 ∷ []) ++ ramp 4091 0 0 ++ (1 ∷ 8 ∷ 15 ∷ 1 ∷ 8 ∷ 15 ∷ 22 ∷ 29 ∷ []) ++ ramp 24568 0 0; head = ramp 16 4 0 ++ (0 ∷ 4 ∷ 0 ∷ 0 ∷ 64 ∷ 0 ∷ 3 ∷ 0 ∷ 0 ∷ 16 ∷ 0 ∷ 1 ∷ []); cards = ramp 7 0 0 ++ (6 ∷ []) ++ ramp 19 0 0 ++ (1 ∷ 128 ∷ 0 ∷ 0 ∷ 12 ∷ []) ++ ramp 7 0 0 ++ (12 ∷ 0 ∷ 0 ∷ 0 ∷ 96 ∷ []) ++ ramp 11 0 0 ++ (7 ∷ []) ++ ramp 7 0 0 ++ (16 ∷ 0 ∷ 0 ∷ 0 ∷ 0 ∷ 64 ∷ []) ++ ramp 6 0 0 ++ (36 ∷ 0 ∷ 0 ∷ 0 ∷ 140 ∷ []) ++ ramp 7 0 0 ++ (12 ∷ 0 ∷ 0 ∷ 0 ∷ 112 ∷ []) ++ ramp 11 0 0 ++ (8 ∷ []) ++ ramp 7 0 0 ++ (20 ∷ []) ++ ramp 11 0 0 ++ (40 ∷ 128 ∷ 0 ∷ 0 ∷ 160 ∷ []) ++ ramp 7 0 0 ++ (15 ∷ 255 ∷ 255 ∷ 255 ∷ 240 ∷ []) ++ ramp 52 0 0; extents = ramp 7 0 0 ++ (7 ∷ 3 ∷ []) ++ ramp 8 0 0 ++ (2 ∷ []) ++ ramp 7 0 0 ++ (1 ∷ []) ++ ramp 106 0 0; groups = ramp 7 0 0 ++ (7 ∷ 4 ∷ []) ++ ramp 8 0 0 ++ (1 ∷ []) ++ ramp 31 0 0 ++ (222 ∷ 169 ∷ 77 ∷ 205 ∷ []) ++ ramp 2093 0 0; used = (7 ∷ []) ++ ramp 7 0 0; retired = (2 ∷ []) ++ ramp 7 0 0 }

pub entry2748 : call (enter 9 (time 3 9)) before2748 ≡ record { number = 2; count = 0; store = before2748; out = [] }
unfolding opened ramp before2748
entry2748 = refl

-- entry 2749, settle: refused by 2
pub before2749 : Store
before2749 = record { image = ramp 4096 0 0 ++ (1 ∷ 8 ∷ 15 ∷ 22 ∷ 29 ∷ []) ++ ramp 4091 0 0 ++ (1 ∷ 8 ∷ 15 ∷ 1 ∷ 8 ∷ 15 ∷ 22 ∷ 29 ∷ []) ++ ramp 24568 0 0; head = ramp 16 4 0 ++ (0 ∷ 4 ∷ 0 ∷ 0 ∷ 64 ∷ 0 ∷ 3 ∷ 0 ∷ 0 ∷ 16 ∷ 0 ∷ 1 ∷ []); cards = ramp 7 0 0 ++ (6 ∷ []) ++ ramp 19 0 0 ++ (1 ∷ 128 ∷ 0 ∷ 0 ∷ 12 ∷ []) ++ ramp 7 0 0 ++ (12 ∷ 0 ∷ 0 ∷ 0 ∷ 96 ∷ []) ++ ramp 11 0 0 ++ (7 ∷ []) ++ ramp 7 0 0 ++ (16 ∷ 0 ∷ 0 ∷ 0 ∷ 0 ∷ 64 ∷ []) ++ ramp 6 0 0 ++ (36 ∷ 119 ∷ 53 ∷ 148 ∷ []) ++ ramp 8 0 0 ++ (15 ∷ 185 ∷ 172 ∷ 160 ∷ []) ++ ramp 12 0 0 ++ (8 ∷ []) ++ ramp 7 0 0 ++ (20 ∷ []) ++ ramp 11 0 0 ++ (40 ∷ 128 ∷ 0 ∷ 0 ∷ 160 ∷ []) ++ ramp 7 0 0 ++ (12 ∷ 0 ∷ 0 ∷ 0 ∷ 128 ∷ []) ++ ramp 52 0 0; extents = ramp 7 0 0 ++ (7 ∷ 3 ∷ []) ++ ramp 8 0 0 ++ (2 ∷ []) ++ ramp 7 0 0 ++ (1 ∷ []) ++ ramp 106 0 0; groups = ramp 7 0 0 ++ (7 ∷ 4 ∷ []) ++ ramp 8 0 0 ++ (1 ∷ []) ++ ramp 31 0 0 ++ (222 ∷ 169 ∷ 77 ∷ 205 ∷ []) ++ ramp 2093 0 0; used = (7 ∷ []) ++ ramp 7 0 0; retired = (2 ∷ []) ++ ramp 7 0 0 }

pub entry2749 : call (settle) before2749 ≡ record { number = 2; count = 0; store = before2749; out = [] }
unfolding opened ramp before2749
entry2749 = refl

-- entry 2750, grow: refused by 2
pub before2750 : Store
before2750 = record { image = ramp 4096 0 0 ++ (1 ∷ 8 ∷ 15 ∷ 22 ∷ 29 ∷ []) ++ ramp 4091 0 0 ++ (1 ∷ 8 ∷ 15 ∷ 1 ∷ 8 ∷ 15 ∷ 22 ∷ 29 ∷ []) ++ ramp 24568 0 0; head = ramp 16 4 0 ++ (0 ∷ 4 ∷ 0 ∷ 0 ∷ 64 ∷ 0 ∷ 3 ∷ 0 ∷ 0 ∷ 16 ∷ 0 ∷ 1 ∷ []); cards = ramp 7 0 0 ++ (6 ∷ []) ++ ramp 19 0 0 ++ (1 ∷ 128 ∷ 0 ∷ 0 ∷ 12 ∷ []) ++ ramp 7 0 0 ++ (12 ∷ 0 ∷ 0 ∷ 0 ∷ 96 ∷ []) ++ ramp 11 0 0 ++ (7 ∷ []) ++ ramp 7 0 0 ++ (16 ∷ 0 ∷ 0 ∷ 0 ∷ 0 ∷ 64 ∷ []) ++ ramp 6 0 0 ++ (36 ∷ 0 ∷ 0 ∷ 0 ∷ 140 ∷ []) ++ ramp 7 0 0 ++ (12 ∷ 0 ∷ 0 ∷ 0 ∷ 120 ∷ []) ++ ramp 11 0 0 ++ (8 ∷ []) ++ ramp 7 0 0 ++ (20 ∷ []) ++ ramp 11 0 0 ++ (40 ∷ 128 ∷ 0 ∷ 0 ∷ 160 ∷ []) ++ ramp 7 0 0 ++ (12 ∷ 0 ∷ 0 ∷ 0 ∷ 128 ∷ []) ++ ramp 52 0 0; extents = ramp 7 0 0 ++ (7 ∷ 3 ∷ []) ++ ramp 8 0 0 ++ (2 ∷ []) ++ ramp 7 0 0 ++ (1 ∷ []) ++ ramp 106 0 0; groups = ramp 7 0 0 ++ (7 ∷ 4 ∷ []) ++ ramp 8 0 0 ++ (1 ∷ []) ++ ramp 31 0 0 ++ (222 ∷ 169 ∷ 77 ∷ 205 ∷ []) ++ ramp 2093 0 0; used = (7 ∷ []) ++ ramp 7 0 0; retired = (2 ∷ []) ++ ramp 7 0 0 }

pub entry2750 : call (grow 7 20 (time 5 6)) before2750 ≡ record { number = 2; count = 0; store = before2750; out = [] }
unfolding opened ramp before2750
entry2750 = refl

-- entry 2751, read: refused by 2
pub before2751 : Store
before2751 = record { image = ramp 4096 0 0 ++ (1 ∷ 8 ∷ 15 ∷ 22 ∷ 29 ∷ []) ++ ramp 4091 0 0 ++ (1 ∷ 8 ∷ 15 ∷ 1 ∷ 8 ∷ 15 ∷ 22 ∷ 29 ∷ []) ++ ramp 24568 0 0; head = ramp 16 4 0 ++ (0 ∷ 4 ∷ 0 ∷ 0 ∷ 64 ∷ 0 ∷ 3 ∷ 0 ∷ 0 ∷ 16 ∷ 0 ∷ 1 ∷ []); cards = ramp 7 0 0 ++ (6 ∷ []) ++ ramp 19 0 0 ++ (1 ∷ 128 ∷ 0 ∷ 0 ∷ 12 ∷ []) ++ ramp 7 0 0 ++ (12 ∷ 0 ∷ 0 ∷ 0 ∷ 96 ∷ []) ++ ramp 11 0 0 ++ (7 ∷ []) ++ ramp 7 0 0 ++ (16 ∷ 0 ∷ 0 ∷ 0 ∷ 0 ∷ 64 ∷ []) ++ ramp 6 0 0 ++ (36 ∷ 0 ∷ 0 ∷ 0 ∷ 140 ∷ []) ++ ramp 7 0 0 ++ (12 ∷ 0 ∷ 0 ∷ 0 ∷ 112 ∷ []) ++ ramp 11 0 0 ++ (8 ∷ []) ++ ramp 7 0 0 ++ (20 ∷ []) ++ ramp 11 0 0 ++ (40 ∷ 128 ∷ 0 ∷ 0 ∷ 160 ∷ []) ++ ramp 7 0 0 ++ (12 ∷ 0 ∷ 0 ∷ 0 ∷ 128 ∷ 0 ∷ 0 ∷ 0 ∷ 1 ∷ []) ++ ramp 48 0 0; extents = ramp 7 0 0 ++ (7 ∷ 3 ∷ []) ++ ramp 8 0 0 ++ (2 ∷ []) ++ ramp 7 0 0 ++ (1 ∷ []) ++ ramp 106 0 0; groups = ramp 7 0 0 ++ (7 ∷ 4 ∷ []) ++ ramp 8 0 0 ++ (1 ∷ []) ++ ramp 31 0 0 ++ (222 ∷ 169 ∷ 77 ∷ 205 ∷ []) ++ ramp 2093 0 0; used = (7 ∷ []) ++ ramp 7 0 0; retired = (2 ∷ []) ++ ramp 7 0 0 }

pub entry2751 : call (look (read 7 0 (ramp 9 165 0))) before2751 ≡ record { number = 2; count = 0; store = before2751; out = ramp 9 165 0 }
unfolding opened ramp before2751
entry2751 = refl

-- entry 2752, fill: accepted
pub before2752 : Store
before2752 = record { image = ramp 4096 0 0 ++ (1 ∷ 8 ∷ 15 ∷ 22 ∷ 29 ∷ []) ++ ramp 4091 0 0 ++ (1 ∷ 8 ∷ 15 ∷ 1 ∷ 8 ∷ 15 ∷ 22 ∷ 29 ∷ []) ++ ramp 24568 0 0; head = ramp 16 4 0 ++ (0 ∷ 4 ∷ 0 ∷ 0 ∷ 64 ∷ 0 ∷ 3 ∷ 0 ∷ 0 ∷ 16 ∷ 0 ∷ 1 ∷ []); cards = ramp 7 0 0 ++ (6 ∷ []) ++ ramp 19 0 0 ++ (1 ∷ 128 ∷ 0 ∷ 0 ∷ 13 ∷ []) ++ ramp 7 0 0 ++ (12 ∷ 0 ∷ 0 ∷ 0 ∷ 96 ∷ []) ++ ramp 11 0 0 ++ (7 ∷ []) ++ ramp 7 0 0 ++ (16 ∷ 0 ∷ 0 ∷ 0 ∷ 0 ∷ 64 ∷ []) ++ ramp 6 0 0 ++ (36 ∷ 0 ∷ 0 ∷ 0 ∷ 140 ∷ []) ++ ramp 7 0 0 ++ (12 ∷ 0 ∷ 0 ∷ 0 ∷ 112 ∷ []) ++ ramp 11 0 0 ++ (8 ∷ []) ++ ramp 7 0 0 ++ (20 ∷ []) ++ ramp 11 0 0 ++ (40 ∷ 128 ∷ 0 ∷ 0 ∷ 160 ∷ []) ++ ramp 7 0 0 ++ (12 ∷ 0 ∷ 0 ∷ 0 ∷ 128 ∷ []) ++ ramp 52 0 0; extents = ramp 7 0 0 ++ (7 ∷ 3 ∷ []) ++ ramp 8 0 0 ++ (2 ∷ []) ++ ramp 7 0 0 ++ (1 ∷ []) ++ ramp 106 0 0; groups = ramp 7 0 0 ++ (7 ∷ 4 ∷ []) ++ ramp 8 0 0 ++ (1 ∷ []) ++ ramp 31 0 0 ++ (222 ∷ 169 ∷ 77 ∷ 205 ∷ []) ++ ramp 2093 0 0; used = (7 ∷ []) ++ ramp 7 0 0; retired = (2 ∷ []) ++ ramp 7 0 0 }

pub entry2752 : call (look (fill)) before2752 ≡ record { number = 0; count = 285; store = before2752; out = [] }
unfolding opened ramp before2752
entry2752 = refl

-- entry 2753, write: accepted
pub before2753 : Store
before2753 = record { image = ramp 32768 0 0; head = ramp 16 6 0 ++ (0 ∷ 4 ∷ 0 ∷ 0 ∷ 0 ∷ 0 ∷ 1 ∷ 0 ∷ 0 ∷ 0 ∷ 0 ∷ 0 ∷ []); cards = ramp 7 0 0 ++ (7 ∷ []) ++ ramp 20 0 0 ++ (128 ∷ 0 ∷ 0 ∷ 4 ∷ []) ++ ramp 7 0 0 ++ (12 ∷ 0 ∷ 0 ∷ 0 ∷ 64 ∷ 0 ∷ 0 ∷ 0 ∷ 0 ∷ []); extents = ramp 264 0 0; groups = ramp 1073 0 0; used = (149 ∷ []) ++ ramp 7 0 0; retired = ramp 8 0 0 }

pub after2753 : Store
after2753 = record { image = ramp 20480 0 0 ++ ramp 4200 1 7 ++ ramp 8088 0 0; head = ramp 16 6 0 ++ (0 ∷ 4 ∷ 0 ∷ 0 ∷ 0 ∷ 0 ∷ 1 ∷ 0 ∷ 0 ∷ 16 ∷ 0 ∷ 1 ∷ []); cards = ramp 7 0 0 ++ (7 ∷ []) ++ ramp 6 0 0 ++ (32 ∷ 208 ∷ 0 ∷ 0 ∷ 0 ∷ 0 ∷ 128 ∷ []) ++ ramp 6 0 0 ++ (2 ∷ 128 ∷ 0 ∷ 0 ∷ 12 ∷ []) ++ ramp 7 0 0 ++ (12 ∷ 0 ∷ 0 ∷ 0 ∷ 64 ∷ 0 ∷ 0 ∷ 0 ∷ 0 ∷ []); extents = ramp 7 0 0 ++ (7 ∷ 3 ∷ []) ++ ramp 8 0 0 ++ (5 ∷ []) ++ ramp 7 0 0 ++ (2 ∷ []) ++ ramp 238 0 0; groups = ramp 7 0 0 ++ (7 ∷ 4 ∷ []) ++ ramp 8 0 0 ++ (1 ∷ []) ++ ramp 31 0 0 ++ (132 ∷ 87 ∷ 5 ∷ 41 ∷ []) ++ ramp 1020 0 0; used = (245 ∷ []) ++ ramp 7 0 0; retired = ramp 8 0 0 }

pub entry2753 : call (write 7 0 (ramp 4200 1 7) (time 5 6)) before2753 ≡ record { number = 0; count = 4200; store = after2753; out = [] }
unfolding opened ramp before2753 after2753
entry2753 = refl

-- entry 2754, write: accepted
pub before2754 : Store
before2754 = record { image = ramp 32768 0 0; head = ramp 16 6 0 ++ (0 ∷ 4 ∷ 0 ∷ 0 ∷ 0 ∷ 0 ∷ 1 ∷ 0 ∷ 0 ∷ 0 ∷ 0 ∷ 0 ∷ []); cards = ramp 7 0 0 ++ (7 ∷ []) ++ ramp 20 0 0 ++ (128 ∷ 0 ∷ 0 ∷ 4 ∷ []) ++ ramp 7 0 0 ++ (12 ∷ 0 ∷ 0 ∷ 0 ∷ 64 ∷ 0 ∷ 0 ∷ 0 ∷ 0 ∷ []); extents = ramp 264 0 0; groups = ramp 1073 0 0; used = (141 ∷ []) ++ ramp 7 0 0; retired = ramp 8 0 0 }

pub after2754 : Store
after2754 = record { image = ramp 16384 0 0 ++ ramp 4200 1 7 ++ ramp 12184 0 0; head = ramp 16 6 0 ++ (0 ∷ 4 ∷ 0 ∷ 0 ∷ 0 ∷ 0 ∷ 1 ∷ 0 ∷ 0 ∷ 16 ∷ 0 ∷ 1 ∷ []); cards = ramp 7 0 0 ++ (7 ∷ []) ++ ramp 6 0 0 ++ (32 ∷ 208 ∷ 0 ∷ 0 ∷ 0 ∷ 0 ∷ 128 ∷ []) ++ ramp 6 0 0 ++ (2 ∷ 128 ∷ 0 ∷ 0 ∷ 12 ∷ []) ++ ramp 7 0 0 ++ (12 ∷ 0 ∷ 0 ∷ 0 ∷ 64 ∷ 0 ∷ 0 ∷ 0 ∷ 0 ∷ []); extents = ramp 7 0 0 ++ (7 ∷ 3 ∷ []) ++ ramp 8 0 0 ++ (4 ∷ []) ++ ramp 7 0 0 ++ (2 ∷ []) ++ ramp 238 0 0; groups = ramp 7 0 0 ++ (7 ∷ 4 ∷ []) ++ ramp 8 0 0 ++ (1 ∷ []) ++ ramp 31 0 0 ++ (132 ∷ 87 ∷ 5 ∷ 41 ∷ []) ++ ramp 1020 0 0; used = (189 ∷ []) ++ ramp 7 0 0; retired = ramp 8 0 0 }

pub entry2754 : call (write 7 0 (ramp 4200 1 7) (time 5 6)) before2754 ≡ record { number = 0; count = 4200; store = after2754; out = [] }
unfolding opened ramp before2754 after2754
entry2754 = refl

-- entry 2759, grow: accepted
pub before2759 : Store
before2759 = record { image = ramp 32768 0 0; head = ramp 16 6 0 ++ (0 ∷ 4 ∷ 0 ∷ 0 ∷ 0 ∷ 0 ∷ 1 ∷ 0 ∷ 0 ∷ 16 ∷ 0 ∷ 1 ∷ []); cards = ramp 7 0 0 ++ (7 ∷ []) ++ ramp 7 0 0 ++ (200 ∷ 0 ∷ 0 ∷ 0 ∷ 0 ∷ 64 ∷ []) ++ ramp 7 0 0 ++ (128 ∷ 0 ∷ 0 ∷ 4 ∷ []) ++ ramp 7 0 0 ++ (12 ∷ 0 ∷ 0 ∷ 0 ∷ 64 ∷ 0 ∷ 0 ∷ 0 ∷ 0 ∷ []); extents = ramp 7 0 0 ++ (7 ∷ 3 ∷ []) ++ ramp 8 0 0 ++ (1 ∷ []) ++ ramp 7 0 0 ++ (1 ∷ []) ++ ramp 238 0 0; groups = ramp 7 0 0 ++ (7 ∷ 4 ∷ []) ++ ramp 8 0 0 ++ (1 ∷ []) ++ ramp 31 0 0 ++ (249 ∷ 124 ∷ 114 ∷ 254 ∷ []) ++ ramp 1020 0 0; used = (203 ∷ []) ++ ramp 7 0 0; retired = ramp 8 0 0 }

pub after2759 : Store
after2759 = record { image = ramp 32768 0 0; head = ramp 16 6 0 ++ (0 ∷ 4 ∷ 0 ∷ 0 ∷ 0 ∷ 0 ∷ 1 ∷ 0 ∷ 0 ∷ 16 ∷ 0 ∷ 1 ∷ []); cards = ramp 7 0 0 ++ (7 ∷ []) ++ ramp 6 0 0 ++ (32 ∷ 208 ∷ 0 ∷ 0 ∷ 0 ∷ 0 ∷ 128 ∷ []) ++ ramp 6 0 0 ++ (2 ∷ 128 ∷ 0 ∷ 0 ∷ 12 ∷ []) ++ ramp 7 0 0 ++ (12 ∷ 0 ∷ 0 ∷ 0 ∷ 64 ∷ 0 ∷ 0 ∷ 0 ∷ 0 ∷ []); extents = ramp 7 0 0 ++ (7 ∷ 3 ∷ []) ++ ramp 8 0 0 ++ (4 ∷ []) ++ ramp 7 0 0 ++ (2 ∷ []) ++ ramp 238 0 0; groups = ramp 7 0 0 ++ (7 ∷ 4 ∷ []) ++ ramp 8 0 0 ++ (1 ∷ []) ++ ramp 31 0 0 ++ (251 ∷ 182 ∷ 95 ∷ 179 ∷ []) ++ ramp 1020 0 0; used = (251 ∷ []) ++ ramp 7 0 0; retired = (2 ∷ []) ++ ramp 7 0 0 }

pub entry2759 : call (grow 7 4200 (time 5 6)) before2759 ≡ record { number = 0; count = 0; store = after2759; out = [] }
unfolding opened ramp before2759 after2759
entry2759 = refl
