-- The source that is made from a number n, line by line, with K from 0 to n-1 and J from 0 to 3 in decimal:
--
--     __mutex m;
--     int n;
--     int b[16];
--     int fK(int v){if(v>K)return v-K;return K;}
--     __task(1) void tJ(void){int z;z=J;while(1){__lock(m);CALLSif(n<16){b[n]=z;n=n+1;}__unlock(m);TAIL__yield();}}
--
-- The fourth line stands once for each K, the fifth once for each J. CALLS is `z=fK(z);` for each K that leaves J when
-- divided by 4. TAIL is `if(n==3)z=0;` for J = 3, and else nothing.
use Rattle.std.specs.Prelude.{ℕ, ◌%◌, ◌==◌, List, [], ◌++◌, length, codes, decimal, filter, if◌then◌else◌}
use Rattle.std.specs.List.{flat_map, range_with_len}
use Rattle.tm_terms.specs.declared.alarms.Alarm.{Alarm}
use Rattle.tm_terms.specs.Texts.{count_line, line_of}

-- 0 to n-1
abbrev pub numbers_below : ℕ → List ℕ
numbers_below n = range_with_len 0 n

-- what all tasks share
abbrev pub declarations : List ℕ
declarations = codes "__mutex m;\nint n;\nint b[16];\n"

-- the function of K
abbrev pub function_line : ℕ → List ℕ
function_line k = line_of (codes "int f" ++ (decimal k ++ (codes "(int v){if(v>" ++ (decimal k
    ++ (codes ")return v-" ++ (decimal k ++ (codes ";return " ++ (decimal k ++ codes ";}"))))))))

-- the call of the function of K
abbrev pub call_text : ℕ → List ℕ
call_text k = codes "z=f" ++ (decimal k ++ codes "(z);")

-- the calls of the task of J
abbrev pub calls_text : ℕ → ℕ → List ℕ
calls_text n j = flat_map call_text (filter (λ k. k % 4 == j) (numbers_below n))

-- what the task of J does behind its unlock
abbrev pub tail_text : ℕ → List ℕ
tail_text j = if j == 3 then codes "if(n==3)z=0;" else []

-- the task of J
abbrev pub task_line : ℕ → ℕ → List ℕ
task_line n j = line_of (codes "__task(1) void t" ++ (decimal j ++ (codes "(void){int z;z=" ++ (decimal j
    ++ (codes ";while(1){__lock(m);" ++ (calls_text n j ++ (codes "if(n<16){b[n]=z;n=n+1;}__unlock(m);"
    ++ (tail_text j ++ codes "__yield();}}"))))))))

-- the whole source
abbrev pub source_text : ℕ → List ℕ
source_text n = declarations ++ (flat_map function_line (numbers_below n) ++ flat_map (task_line n) (numbers_below 4))

-- a source and its report in two lines: how many bytes the one has, and how many alarms the other
abbrev pub summary_text : List ℕ → List Alarm → List ℕ
summary_text source alarms =
    line_of (codes "source " ++ (decimal (length source) ++ codes " bytes")) ++ count_line (length alarms)
