-- What is kept of an input, and given once more. A working form.
use Rattle.std.specs.Prelude.{◌≡◌, ℕ, zero, suc, ◌+◌, ◌≤◌, Bool, true, false, List, [], ◌++◌, length, min, take, drop, Option, Some, None, option_map, ◌⊎◌}
use Rattle.std.specs.Io.KnownBytes.{Appends, Keeps}
use Rattle.h264_command.specs.declared.keeping.Stage.{Stage}
use Rattle.h264_command.specs.declared.keeping.Stage.TheVariants as stages
use Rattle.h264_command.specs.declared.storing.KeptBytes.{KeptBytes}

-- A read gave so many bytes of those that were still to be given, as many as it could, and put them at the front of its piece.
pub record GaveAgain (past past' piece piece' : List ℕ) (n : ℕ) : Type 0 where
  pub count : n ≡ min (length past) (length piece)
  pub bytes : piece' ≡ take n past ++ drop n piece
  pub rest : past' ≡ drop n past

-- how many bytes were read, where any could be
abbrev pub count_read : Option ℕ → ℕ
count_read None = 0
count_read (Some n) = n

-- The bytes of a store that were counted, where they are known; where none were counted there are none.
abbrev pub counted_bytes : ℕ → (held : Option (List ℕ)) → Option (List ℕ)
counted_bytes zero held = Some []
counted_bytes (suc n) held = option_map (λ xs. take (suc n) xs) held

-- A store's bytes are known, and as many as were counted.
abbrev pub IsCounted : ℕ → (held : Option (List ℕ)) → Type 0
IsCounted n None = ⊥
IsCounted n (Some xs) = length xs ≡ n

-- Bytes in the order in which they are kept, where they are known: those in memory, those of a store, and those that it refused.
abbrev pub in_order : (memory : List ℕ) (stored : Option (List ℕ)) (refused : List ℕ) → Option (List ℕ)
in_order memory stored refused = option_map (λ xs. memory ++ (xs ++ refused)) stored

-- No more is kept than may be.
abbrev pub IsWithin : {S : Type 0} → KeptBytes S → Type 0
IsWithin k = (length k.memory.items ≤ k.most.memory) × (k.stored ≤ k.most.store)

module _ {S : Type 0} (remaining : S → Option (List ℕ)) where
  -- all bytes that are kept, by what is known of the store
  abbrev pub all_kept : KeptBytes S → Option (List ℕ)
  all_kept k = in_order k.memory.items (counted_bytes k.stored (remaining k.store)) k.refused.items

  -- those of them that are still to be given
  abbrev pub left_kept : KeptBytes S → Option (List ℕ)
  left_kept k = in_order (drop k.given k.memory.items) (counted_bytes k.stored (remaining k.store)) k.refused.items

  -- A piece was kept in memory, where nothing is kept after what memory has.
  pub record IsInMemory (k k' : KeptBytes S) (piece : List ℕ) : Type 0 where
    pub memory : k'.memory.items ≡ k.memory.items ++ piece
    pub unstored : k.stored ≡ 0
    pub stored : k'.stored ≡ k.stored
    pub store : k'.store ≡ k.store
    pub unrefused : k.refused.items ≡ []
    pub refused : k'.refused.items ≡ k.refused.items

  -- A piece was kept in the store.
  pub record IsInStore (k k' : KeptBytes S) (piece : List ℕ) : Type 0 where
    pub memory : k'.memory.items ≡ k.memory.items
    pub stored : k'.stored ≡ k.stored + length piece
    pub store : Appends (remaining k.store) (remaining k'.store) piece
    pub unrefused : k.refused.items ≡ []
    pub refused : k'.refused.items ≡ k.refused.items

  -- A piece was kept after what the store has, which refused it.
  pub record IsApart (k k' : KeptBytes S) (piece : List ℕ) : Type 0 where
    pub memory : k'.memory.items ≡ k.memory.items
    pub stored : k'.stored ≡ k.stored
    pub store : Keeps (remaining k.store) (remaining k'.store)
    pub refused : k'.refused.items ≡ k.refused.items ++ piece

  -- A piece was kept after all that was kept before.
  abbrev pub IsKept : (k k' : KeptBytes S) (piece : List ℕ) → Type 0
  IsKept k k' piece = IsInMemory k k' piece ⊎ (IsInStore k k' piece ⊎ IsApart k k' piece)

-- The bytes that are still to come, where they are known: those that are kept, and after them those that the reader has left, unless its end was read. While
-- they are kept none are known, since the reading may be cut short.
abbrev pub to_come : Stage → (has_ended : Bool) → (kept left : Option (List ℕ)) → Option (List ℕ)
to_come stages.Given has_ended kept left = left
to_come stages.Kept has_ended kept left = None
to_come stages.Again true kept left = kept
to_come stages.Again false None left = None
to_come stages.Again false (Some kept) left = option_map (λ xs. kept ++ xs) left
