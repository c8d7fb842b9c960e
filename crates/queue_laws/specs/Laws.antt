-- What holds of the definitions, whatever the files.
use Rattle.std.specs.Prelude.{◌≡◌, ◌≢◌, ℕ, ◌+◌, ◌^◌, ◌<◌, ◌≤◌, ◌↔◌, ◌⊎◌, List, [], ◌∷◌, ◌++◌, length, take, Option, Some}
use Rattle.nsq_core.specs.Name.{IsName}
use Rattle.queue_image.specs.FileNames.{data_file, meta_file, meta_temp, set_aside, channel_queue, IsOwnFile, IsFileOf}
use Rattle.queue_image.specs.Records.{HasRecord, record_bytes, IsSize, IsRow, IsDamaged}
use Rattle.queue_image.specs.Places.{IsOrdered, IsInRange, part_start, part_end}
use Rattle.queue_image.specs.Metas.{Meta, IsMeta, meta_text}
use Rattle.queue_image.specs.Between.{content, Reads, Between, IsSaved}
use Rattle.queue_image.specs.Finds.{IsGoodFile, IsBadFile, Walks, Finding, Records, IsFound}
use Rattle.queue_image.specs.declared.positions.Positions.{Positions}

-- no file belongs to two queues, whatever their names are
abbrev pub FilesAreApart : Type 0
FilesAreApart = (a b file : List ℕ) → IsFileOf a file → IsFileOf b file → a ≡ b

-- the queues of two channels have different names
abbrev pub ChannelsAreApart : Type 0
ChannelsAreApart = (topic channel topic' channel' : List ℕ) → IsName topic → IsName topic' → channel_queue topic channel ≡ channel_queue topic' channel'
    → (topic ≡ topic') × (channel ≡ channel')

-- no topic has the name of a channel's queue
abbrev pub TopicsAreNoChannels : Type 0
TopicsAreNoChannels = (name topic channel : List ℕ) → IsName name → name ≢ channel_queue topic channel

-- data files of different numbers have different names
abbrev pub NumbersAreApart : Type 0
NumbersAreApart = (name : List ℕ) (m n : ℕ) → m < 2 ^ 64 → n < 2 ^ 64 → data_file name m ≡ data_file name n → m ≡ n

-- the metadata, the metadata being written and each data file have different names
abbrev pub MetadataIsApart : Type 0
MetadataIsApart = (name : List ℕ) (n : ℕ) → n < 2 ^ 64 → (meta_file name ≢ data_file name n) × (meta_temp name ≢ data_file name n) × (meta_temp name ≢ meta_file name)

-- no file that a queue reads or writes has the name of one that was set aside
abbrev pub AsideIsApart : Type 0
AsideIsApart = (a b file : List ℕ) → IsOwnFile a file → file ≢ set_aside b

-- a queue's file has a name of 19 bytes at least, so a file of a shorter name is no queue's
abbrev pub FilesHaveLongNames : Type 0
FilesHaveLongNames = (name file : List ℕ) → IsFileOf name file → 19 ≤ length file

-- bytes are a row of records in one way only
abbrev pub RowsAreUnique : Type 0
RowsAreUnique = (least limit : ℕ) (bytes : List ℕ) (xs ys : List (List ℕ)) → limit < 2 ^ 32 → IsRow least limit bytes xs → IsRow least limit bytes ys → xs ≡ ys

-- no bytes are a row and damaged
abbrev pub RowsAreWhole : Type 0
RowsAreWhole = (least limit : ℕ) (bytes : List ℕ) (bodies : List (List ℕ)) (place size : ℕ) → limit < 2 ^ 32 → IsRow least limit bytes bodies → IsDamaged least limit bytes place size → ⊥

-- damaged bytes are so at one place only
abbrev pub DamageIsUnique : Type 0
DamageIsUnique = (least limit : ℕ) (bytes : List ℕ) (p s q t : ℕ) → limit < 2 ^ 32 → IsDamaged least limit bytes p s → IsDamaged least limit bytes q t → (p ≡ q) × (s ≡ t)

-- a row and one more record are a row
abbrev pub RowsGrow : Type 0
RowsGrow = (least limit : ℕ) (bytes : List ℕ) (bodies : List (List ℕ)) (body : List ℕ) → IsRow least limit bytes bodies → IsSize least limit (length body)
    → IsRow least limit (bytes ++ record_bytes body) (bodies ++ body ∷ [])

-- the files give one list at most between two positions
abbrev pub BetweenIsUnique : Type 0
BetweenIsUnique = (least limit : ℕ) (files : List ℕ → Option (List ℕ)) (name : List ℕ) (p : Positions) (xs ys : List (List ℕ)) → limit < 2 ^ 32
    → Between least limit files name p xs → Between least limit files name p ys → xs ≡ ys

-- what is read up to a place, and then from there on, is read as one
abbrev pub ReadingJoins : Type 0
ReadingJoins = (least limit : ℕ) (bytes : ℕ → List ℕ) (f a g b h c : ℕ) (xs ys : List (List ℕ))
    → Reads least limit bytes g b f a xs → Reads least limit bytes h c g b ys → Reads least limit bytes h c f a (xs ++ ys)

-- reading up to a place depends on the files from the first one on and on what stands before that place alone
abbrev pub ReadingKeeps : Type 0
ReadingKeeps = (least limit : ℕ) (old new : ℕ → List ℕ) (f a g b : ℕ) (xs : List (List ℕ)) → Reads least limit old g b f a xs
    → ((k : ℕ) → f ≤ k → k < g → new k ≡ old k) → take b (new g) ≡ take b (old g) → Reads least limit new g b f a xs

-- the part of a good file is read from its start to its end
abbrev pub GoodIsRead : Type 0
GoodIsRead = (least limit : ℕ) (p : Positions) (bytes : ℕ → List ℕ) (k : ℕ) (bodies : List (List ℕ)) → IsOrdered p → IsGoodFile least limit p k (bytes k) bodies
    → Reads least limit bytes k (part_end p k (length (bytes k))) k (part_start p k) bodies

-- a record written at the write position joins the list at its end
abbrev pub WritingAppends : Type 0
WritingAppends = (least limit : ℕ) (old new : List ℕ → Option (List ℕ)) (name : List ℕ) (p : Positions) (bodies : List (List ℕ)) (body : List ℕ)
    → Between least limit old name p bodies → ((k : ℕ) → p.read_file ≤ k → k < p.write_file → content new name k ≡ content old name k)
    → take p.write_at (content new name p.write_file) ≡ take p.write_at (content old name p.write_file) → HasRecord least limit (content new name p.write_file) p.write_at body
    → Between least limit new name (record p { write_at = p.write_at + (4 + length body) }) (bodies ++ body ∷ [])

-- the list stays where the write file ends at the write position and writing turns to the next file
abbrev pub WritingTurns : Type 0
WritingTurns = (least limit : ℕ) (files : List ℕ → Option (List ℕ)) (name : List ℕ) (p : Positions) (bodies : List (List ℕ)) → Between least limit files name p bodies
    → p.write_at ≡ length (content files name p.write_file) → Between least limit files name (record p { write_file = p.write_file + 1; write_at = 0 }) bodies

-- where the read position is before its file's end, the first of the list stands there, and the rest is read behind it
abbrev pub TakingMoves : Type 0
TakingMoves = (least limit : ℕ) (files : List ℕ → Option (List ℕ)) (name : List ℕ) (p : Positions) (first : List ℕ) (rest : List (List ℕ)) → Between least limit files name p (first ∷ rest)
    → p.read_at < length (content files name p.read_file)
    → HasRecord least limit (content files name p.read_file) p.read_at first × Between least limit files name (record p { read_at = p.read_at + (4 + length first) }) rest

-- where the read file is below the write file and ends at the read position, the same list is read from the next file's start
abbrev pub ReadingTurns : Type 0
ReadingTurns = (least limit : ℕ) (files : List ℕ → Option (List ℕ)) (name : List ℕ) (p : Positions) (bodies : List (List ℕ)) → Between least limit files name p bodies
    → p.read_file < p.write_file → p.read_at ≡ length (content files name p.read_file) → Between least limit files name (record p { read_file = p.read_file + 1; read_at = 0 }) bodies

-- a list stands only where the read position is not past the write position
abbrev pub BetweenIsOrdered : Type 0
BetweenIsOrdered = (least limit : ℕ) (files : List ℕ → Option (List ℕ)) (name : List ℕ) (p : Positions) (bodies : List (List ℕ)) → Between least limit files name p bodies → IsOrdered p

-- where one file is read and written, the list is empty exactly where the positions are the same
abbrev pub EmptyIsAtEnd : Type 0
EmptyIsAtEnd = (least limit : ℕ) (files : List ℕ → Option (List ℕ)) (name : List ℕ) (p : Positions) (bodies : List (List ℕ)) → Between least limit files name p bodies
    → p.read_file ≡ p.write_file → (bodies ≡ []) ↔ (p.read_at ≡ p.write_at)

-- the list of a queue depends on the queue's own files alone, where the write file's number is one that 64 bits hold
abbrev pub BetweenKeeps : Type 0
BetweenKeeps = (least limit : ℕ) (old new : List ℕ → Option (List ℕ)) (name : List ℕ) (p : Positions) (bodies : List (List ℕ)) → p.write_file < 2 ^ 64
    → ((file : List ℕ) → IsOwnFile name file → new file ≡ old file) → Between least limit old name p bodies → Between least limit new name p bodies

-- a text is metadata in one way only
abbrev pub MetaIsUnique : Type 0
MetaIsUnique = (text : List ℕ) (m n : Meta) → IsMeta text m → IsMeta text n → m ≡ n

-- the text that a queue writes is read back
abbrev pub MetaReadsBack : Type 0
MetaReadsBack = (depth : ℕ) (p : Positions) → depth < 2 ^ 128 → IsInRange p → IsOrdered p → IsMeta (meta_text depth p) (record { depth = depth; positions = p })

-- an opening finds one thing only
abbrev pub FindingIsUnique : Type 0
FindingIsUnique = (least limit : ℕ) (files : List ℕ → Option (List ℕ)) (name : List ℕ) (x y : Finding) → limit < 2 ^ 32
    → IsFound least limit files name x → IsFound least limit files name y → x ≡ y

-- what an opening finds of a queue depends on the queue's own files alone
abbrev pub FindingKeeps : Type 0
FindingKeeps = (least limit : ℕ) (old new : List ℕ → Option (List ℕ)) (name : List ℕ) (x : Finding) → ((file : List ℕ) → IsOwnFile name file → new file ≡ old file)
    → IsFound least limit old name x → IsFound least limit new name x

-- where the files give a list at the positions of the metadata, an opening finds that list, and no bad file
abbrev pub ListIsFound : Type 0
ListIsFound = (least limit : ℕ) (files : List ℕ → Option (List ℕ)) (name text : List ℕ) (meta : Meta) (bodies : List (List ℕ)) → files (meta_file name) ≡ Some text
    → IsMeta text meta → Between least limit files name meta.positions bodies → IsFound least limit files name (Records bodies [])

-- where a list is saved with positions in range, an opening finds that list, and no bad file
abbrev pub SavedIsFound : Type 0
SavedIsFound = (least limit : ℕ) (files : List ℕ → Option (List ℕ)) (name : List ℕ) (p : Positions) (bodies : List (List ℕ)) → length bodies < 2 ^ 128 → IsInRange p
    → IsSaved least limit files name p bodies → IsFound least limit files name (Records bodies [])

-- where an opening finds no bad file, and the write position lies in its file, the files give the list that it finds
abbrev pub FoundIsBetween : Type 0
FoundIsBetween = (least limit : ℕ) (files : List ℕ → Option (List ℕ)) (name text : List ℕ) (meta : Meta) (bodies : List (List ℕ)) → files (meta_file name) ≡ Some text
    → IsMeta text meta → meta.positions.write_at ≤ length (content files name meta.positions.write_file)
    → IsFound least limit files name (Records bodies []) → Between least limit files name meta.positions bodies

-- the bodies are read up to the start of that file, from the read position or from the read file's start
pub record FoundUpTo (least limit : ℕ) (p : Positions) (bytes : ℕ → List ℕ) (k : ℕ) (bodies : List (List ℕ)) : Type 0 where
  pub from : ℕ
  pub is : (from ≡ p.read_at) ⊎ (from ≡ 0)
  pub reads : Reads least limit bytes k 0 p.read_file from bodies

-- what the walk up to a file found is read once the bad files before it are empty and the good ones as they were
abbrev pub FoundIsKept : Type 0
FoundIsKept = (least limit : ℕ) (p : Positions) (old new : ℕ → List ℕ) (k : ℕ) (bodies : List (List ℕ)) (bad : List ℕ) → Walks least limit p old k bodies bad
    → p.read_file < k → k ≤ p.write_file → ((j : ℕ) → p.read_file ≤ j → j < k → IsBadFile least limit p j (old j) → new j ≡ [])
    → ((j : ℕ) (xs : List (List ℕ)) → p.read_file ≤ j → j < k → IsGoodFile least limit p j (old j) xs → new j ≡ old j) → FoundUpTo least limit p new k bodies
