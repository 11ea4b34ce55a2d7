-- Bytes, blocks of 128 bytes, and what a store does. Disk and memory are lists of bytes.
use Rattle.std.specs.Prelude.{ℕ, zero, suc, ◌+◌, ◌*◌, ◌-◌, ◌/◌, ◌%◌, length, take, drop, replicate}
use mathlib.Core.List.{List, [], ◌∷◌, ◌++◌, flat_map}
use Rattle.model.specs.Limits.{block_size, disk_size, memory_size}

abbrev pub Bytes : Type 0
Bytes = List ℕ

-- 'stored ones and those on the tape are big-endian': the w bytes of n, the highest first
unfoldable pub bytes : ℕ → ℕ → Bytes
bytes zero n = []
bytes (suc w) n = bytes w (n / 256) ++ (n % 256 ∷ [])

-- the number that the bytes of a list give, read on from acc
unfoldable pub number : ℕ → Bytes → ℕ
number acc [] = acc
number acc (x ∷ xs) = number (acc * 256 + x) xs

-- the n bytes from a place on
unfoldable pub part : ℕ → ℕ → Bytes → Bytes
part at n s = take n (drop at s)

-- the four-byte number at a place
unfoldable pub be4 : Bytes → ℕ → ℕ
be4 s at = number 0 (part at 4 s)

-- the n bytes from a place on replaced
unfoldable pub replaced : ℕ → ℕ → Bytes → Bytes → Bytes
replaced at n s b = take at s ++ (b ++ drop n (drop at s))

-- 'A block is 128 bytes': block k of a disk, or of memory
unfoldable pub block_at : Bytes → ℕ → Bytes
block_at d k = part (block_size * k) block_size d

-- 'A store replaces one disk block': the disk, or memory, with block k replaced
unfoldable pub store : Bytes → ℕ → Bytes → Bytes
store d k b = replaced (block_size * k) block_size d b

-- 'Unused bytes are zero': a block that begins with the bytes given
unfoldable pub padded : Bytes → Bytes
padded s = s ++ replicate (block_size - length s) 0

-- four bytes for each number
unfoldable pub words : List ℕ → Bytes
words ns = flat_map (bytes 4) ns

-- the block of the four-byte numbers given
unfoldable pub block : List ℕ → Bytes
block ns = padded (words ns)

-- 'The lent disk slice is exactly 32,896 bytes', 'a lent slice of exactly 16,384 bytes', all zero
unfoldable pub zero_disk : Bytes
zero_disk = replicate disk_size 0

unfoldable pub zero_memory : Bytes
zero_memory = replicate memory_size 0
