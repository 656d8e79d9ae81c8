-- The names of the functions of C99's library (C99 7.1.3p1), and those besides that gcc and clang know in their GNU
-- modes.
use Rattle.std.specs.Prelude.{ℕ, List, [], ◌∷◌, ◌++◌, codes}

unfoldable pub row_0 : List (List ℕ)
row_0 =
    codes "_Exit" ∷ codes "_exit" ∷ codes "_longjmp" ∷ codes "_setjmp" ∷ codes "abort" ∷ codes "abs" ∷ codes "acos" ∷
    codes "acosf" ∷ codes "acosh" ∷ codes "acoshf" ∷ codes "acoshl" ∷ codes "acosl" ∷ codes "aligned_alloc" ∷
    codes "alloca" ∷ codes "asctime" ∷ codes "asin" ∷ codes "asinf" ∷ codes "asinh" ∷ codes "asinhf" ∷
    codes "asinhl" ∷ codes "asinl" ∷ codes "atan" ∷ codes "atan2" ∷ codes "atan2f" ∷ codes "atan2l" ∷ codes "atanf" ∷
    codes "atanh" ∷ codes "atanhf" ∷ codes "atanhl" ∷ codes "atanl" ∷ codes "atexit" ∷ codes "atof" ∷ codes "atoi" ∷
    codes "atol" ∷ codes "atoll" ∷ codes "bcmp" ∷ codes "bcopy" ∷ codes "bsearch" ∷ codes "btowc" ∷ codes "bzero" ∷ []

unfoldable pub row_1 : List (List ℕ)
row_1 =
    codes "cabs" ∷ codes "cabsf" ∷ codes "cabsl" ∷ codes "cacos" ∷ codes "cacosf" ∷ codes "cacosh" ∷ codes "cacoshf" ∷
    codes "cacoshl" ∷ codes "cacosl" ∷ codes "calloc" ∷ codes "carg" ∷ codes "cargf" ∷ codes "cargl" ∷ codes "casin" ∷
    codes "casinf" ∷ codes "casinh" ∷ codes "casinhf" ∷ codes "casinhl" ∷ codes "casinl" ∷ codes "catan" ∷
    codes "catanf" ∷ codes "catanh" ∷ codes "catanhf" ∷ codes "catanhl" ∷ codes "catanl" ∷ codes "cbrt" ∷
    codes "cbrtf" ∷ codes "cbrtl" ∷ codes "ccos" ∷ codes "ccosf" ∷ codes "ccosh" ∷ codes "ccoshf" ∷ codes "ccoshl" ∷
    codes "ccosl" ∷ codes "ceil" ∷ codes "ceilf" ∷ codes "ceill" ∷ codes "cexp" ∷ codes "cexpf" ∷ codes "cexpl" ∷ []

unfoldable pub row_2 : List (List ℕ)
row_2 =
    codes "cimag" ∷ codes "cimagf" ∷ codes "cimagl" ∷ codes "clearerr" ∷ codes "clock" ∷ codes "clog" ∷
    codes "clogf" ∷ codes "clogl" ∷ codes "conj" ∷ codes "conjf" ∷ codes "conjl" ∷ codes "copysign" ∷
    codes "copysignf" ∷ codes "copysignl" ∷ codes "cos" ∷ codes "cosf" ∷ codes "cosh" ∷ codes "coshf" ∷
    codes "coshl" ∷ codes "cosl" ∷ codes "cpow" ∷ codes "cpowf" ∷ codes "cpowl" ∷ codes "cproj" ∷ codes "cprojf" ∷
    codes "cprojl" ∷ codes "creal" ∷ codes "crealf" ∷ codes "creall" ∷ codes "csin" ∷ codes "csinf" ∷ codes "csinh" ∷
    codes "csinhf" ∷ codes "csinhl" ∷ codes "csinl" ∷ codes "csqrt" ∷ codes "csqrtf" ∷ codes "csqrtl" ∷ codes "ctan" ∷
    codes "ctanf" ∷ []

unfoldable pub row_3 : List (List ℕ)
row_3 =
    codes "ctanh" ∷ codes "ctanhf" ∷ codes "ctanhl" ∷ codes "ctanl" ∷ codes "ctime" ∷ codes "dcgettext" ∷
    codes "dgettext" ∷ codes "difftime" ∷ codes "div" ∷ codes "drem" ∷ codes "dremf" ∷ codes "dreml" ∷ codes "erf" ∷
    codes "erfc" ∷ codes "erfcf" ∷ codes "erfcl" ∷ codes "erff" ∷ codes "erfl" ∷ codes "errno" ∷ codes "execl" ∷
    codes "execle" ∷ codes "execlp" ∷ codes "execv" ∷ codes "execve" ∷ codes "execvp" ∷ codes "exit" ∷ codes "exp" ∷
    codes "exp10" ∷ codes "exp10f" ∷ codes "exp10l" ∷ codes "exp2" ∷ codes "exp2f" ∷ codes "exp2l" ∷ codes "expf" ∷
    codes "expl" ∷ codes "expm1" ∷ codes "expm1f" ∷ codes "expm1l" ∷ codes "fabs" ∷ codes "fabsf" ∷ []

unfoldable pub row_4 : List (List ℕ)
row_4 =
    codes "fabsl" ∷ codes "fclose" ∷ codes "fdim" ∷ codes "fdimf" ∷ codes "fdiml" ∷ codes "feclearexcept" ∷
    codes "fegetenv" ∷ codes "fegetexceptflag" ∷ codes "fegetround" ∷ codes "feholdexcept" ∷ codes "feof" ∷
    codes "feraiseexcept" ∷ codes "ferror" ∷ codes "fesetenv" ∷ codes "fesetexceptflag" ∷ codes "fesetround" ∷
    codes "fetestexcept" ∷ codes "feupdateenv" ∷ codes "fflush" ∷ codes "ffs" ∷ codes "ffsl" ∷ codes "ffsll" ∷
    codes "fgetc" ∷ codes "fgetpos" ∷ codes "fgets" ∷ codes "fgetwc" ∷ codes "fgetws" ∷ codes "floor" ∷
    codes "floorf" ∷ codes "floorl" ∷ codes "fma" ∷ codes "fmaf" ∷ codes "fmal" ∷ codes "fmax" ∷ codes "fmaxf" ∷
    codes "fmaxl" ∷ codes "fmin" ∷ codes "fminf" ∷ codes "fminl" ∷ codes "fmod" ∷ []

unfoldable pub row_5 : List (List ℕ)
row_5 =
    codes "fmodf" ∷ codes "fmodl" ∷ codes "fopen" ∷ codes "fork" ∷ codes "fprintf" ∷ codes "fprintf_unlocked" ∷
    codes "fputc" ∷ codes "fputs" ∷ codes "fputs_unlocked" ∷ codes "fputwc" ∷ codes "fputws" ∷ codes "fread" ∷
    codes "free" ∷ codes "freopen" ∷ codes "frexp" ∷ codes "frexpf" ∷ codes "frexpl" ∷ codes "fscanf" ∷
    codes "fseek" ∷ codes "fsetpos" ∷ codes "ftell" ∷ codes "fwide" ∷ codes "fwprintf" ∷ codes "fwrite" ∷
    codes "fwscanf" ∷ codes "gamma" ∷ codes "gamma_r" ∷ codes "gammaf" ∷ codes "gammaf_r" ∷ codes "gammal" ∷
    codes "gammal_r" ∷ codes "getc" ∷ codes "getchar" ∷ codes "getcontext" ∷ codes "getenv" ∷ codes "gets" ∷
    codes "gettext" ∷ codes "getwc" ∷ codes "getwchar" ∷ codes "gmtime" ∷ []

unfoldable pub row_6 : List (List ℕ)
row_6 =
    codes "hypot" ∷ codes "hypotf" ∷ codes "hypotl" ∷ codes "ilogb" ∷ codes "ilogbf" ∷ codes "ilogbl" ∷
    codes "imaxabs" ∷ codes "imaxdiv" ∷ codes "index" ∷ codes "isalnum" ∷ codes "isalpha" ∷ codes "isascii" ∷
    codes "isblank" ∷ codes "iscntrl" ∷ codes "isdigit" ∷ codes "isgraph" ∷ codes "islower" ∷ codes "isprint" ∷
    codes "ispunct" ∷ codes "isspace" ∷ codes "isupper" ∷ codes "iswalnum" ∷ codes "iswalpha" ∷ codes "iswblank" ∷
    codes "iswcntrl" ∷ codes "iswctype" ∷ codes "iswdigit" ∷ codes "iswgraph" ∷ codes "iswlower" ∷ codes "iswprint" ∷
    codes "iswpunct" ∷ codes "iswspace" ∷ codes "iswupper" ∷ codes "iswxdigit" ∷ codes "isxdigit" ∷ codes "j0" ∷
    codes "j0f" ∷ codes "j0l" ∷ codes "j1" ∷ codes "j1f" ∷ []

unfoldable pub row_7 : List (List ℕ)
row_7 =
    codes "j1l" ∷ codes "jn" ∷ codes "jnf" ∷ codes "jnl" ∷ codes "labs" ∷ codes "ldexp" ∷ codes "ldexpf" ∷
    codes "ldexpl" ∷ codes "ldiv" ∷ codes "lgamma" ∷ codes "lgamma_r" ∷ codes "lgammaf" ∷ codes "lgammaf_r" ∷
    codes "lgammal" ∷ codes "lgammal_r" ∷ codes "llabs" ∷ codes "lldiv" ∷ codes "llrint" ∷ codes "llrintf" ∷
    codes "llrintl" ∷ codes "llround" ∷ codes "llroundf" ∷ codes "llroundl" ∷ codes "localeconv" ∷ codes "localtime" ∷
    codes "log" ∷ codes "log10" ∷ codes "log10f" ∷ codes "log10l" ∷ codes "log1p" ∷ codes "log1pf" ∷ codes "log1pl" ∷
    codes "log2" ∷ codes "log2f" ∷ codes "log2l" ∷ codes "logb" ∷ codes "logbf" ∷ codes "logbl" ∷ codes "logf" ∷
    codes "logl" ∷ []

unfoldable pub row_8 : List (List ℕ)
row_8 =
    codes "longjmp" ∷ codes "lrint" ∷ codes "lrintf" ∷ codes "lrintl" ∷ codes "lround" ∷ codes "lroundf" ∷
    codes "lroundl" ∷ codes "malloc" ∷ codes "mblen" ∷ codes "mbrlen" ∷ codes "mbrtowc" ∷ codes "mbsinit" ∷
    codes "mbsrtowcs" ∷ codes "mbstowcs" ∷ codes "mbtowc" ∷ codes "memccpy" ∷ codes "memchr" ∷ codes "memcmp" ∷
    codes "memcpy" ∷ codes "memmove" ∷ codes "mempcpy" ∷ codes "memset" ∷ codes "mktime" ∷ codes "modf" ∷
    codes "modff" ∷ codes "modfl" ∷ codes "nan" ∷ codes "nanf" ∷ codes "nanl" ∷ codes "nearbyint" ∷
    codes "nearbyintf" ∷ codes "nearbyintl" ∷ codes "nextafter" ∷ codes "nextafterf" ∷ codes "nextafterl" ∷
    codes "nexttoward" ∷ codes "nexttowardf" ∷ codes "nexttowardl" ∷ codes "perror" ∷ codes "posix_memalign" ∷ []

unfoldable pub row_9 : List (List ℕ)
row_9 =
    codes "pow" ∷ codes "pow10" ∷ codes "pow10f" ∷ codes "pow10l" ∷ codes "powf" ∷ codes "powl" ∷ codes "printf" ∷
    codes "printf_unlocked" ∷ codes "putc" ∷ codes "putchar" ∷ codes "putchar_unlocked" ∷ codes "puts" ∷
    codes "puts_unlocked" ∷ codes "putwc" ∷ codes "putwchar" ∷ codes "qsort" ∷ codes "raise" ∷ codes "rand" ∷
    codes "realloc" ∷ codes "remainder" ∷ codes "remainderf" ∷ codes "remainderl" ∷ codes "remove" ∷ codes "remquo" ∷
    codes "remquof" ∷ codes "remquol" ∷ codes "rename" ∷ codes "rewind" ∷ codes "rindex" ∷ codes "rint" ∷
    codes "rintf" ∷ codes "rintl" ∷ codes "round" ∷ codes "roundeven" ∷ codes "roundevenf" ∷ codes "roundevenl" ∷
    codes "roundf" ∷ codes "roundl" ∷ codes "savectx" ∷ codes "scalb" ∷ []

unfoldable pub row_10 : List (List ℕ)
row_10 =
    codes "scalbf" ∷ codes "scalbl" ∷ codes "scalbln" ∷ codes "scalblnf" ∷ codes "scalblnl" ∷ codes "scalbn" ∷
    codes "scalbnf" ∷ codes "scalbnl" ∷ codes "scanf" ∷ codes "setbuf" ∷ codes "setjmp" ∷ codes "setlocale" ∷
    codes "setvbuf" ∷ codes "siglongjmp" ∷ codes "signal" ∷ codes "signbit" ∷ codes "signbitf" ∷ codes "signbitl" ∷
    codes "significand" ∷ codes "significandf" ∷ codes "significandl" ∷ codes "sigsetjmp" ∷ codes "sin" ∷
    codes "sincos" ∷ codes "sincosf" ∷ codes "sincosl" ∷ codes "sinf" ∷ codes "sinh" ∷ codes "sinhf" ∷ codes "sinhl" ∷
    codes "sinl" ∷ codes "snprintf" ∷ codes "sprintf" ∷ codes "sqrt" ∷ codes "sqrtf" ∷ codes "sqrtl" ∷ codes "srand" ∷
    codes "sscanf" ∷ codes "stpcpy" ∷ codes "stpncpy" ∷ []

unfoldable pub row_11 : List (List ℕ)
row_11 =
    codes "strcasecmp" ∷ codes "strcat" ∷ codes "strchr" ∷ codes "strcmp" ∷ codes "strcoll" ∷ codes "strcpy" ∷
    codes "strcspn" ∷ codes "strdup" ∷ codes "strerror" ∷ codes "strfmon" ∷ codes "strftime" ∷ codes "strlcat" ∷
    codes "strlcpy" ∷ codes "strlen" ∷ codes "strncasecmp" ∷ codes "strncat" ∷ codes "strncmp" ∷ codes "strncpy" ∷
    codes "strndup" ∷ codes "strnlen" ∷ codes "strpbrk" ∷ codes "strrchr" ∷ codes "strspn" ∷ codes "strstr" ∷
    codes "strtod" ∷ codes "strtof" ∷ codes "strtoimax" ∷ codes "strtok" ∷ codes "strtol" ∷ codes "strtold" ∷
    codes "strtoll" ∷ codes "strtoul" ∷ codes "strtoull" ∷ codes "strtoumax" ∷ codes "strxfrm" ∷ codes "swprintf" ∷
    codes "swscanf" ∷ codes "system" ∷ codes "tan" ∷ codes "tanf" ∷ []

unfoldable pub row_12 : List (List ℕ)
row_12 =
    codes "tanh" ∷ codes "tanhf" ∷ codes "tanhl" ∷ codes "tanl" ∷ codes "tgamma" ∷ codes "tgammaf" ∷ codes "tgammal" ∷
    codes "time" ∷ codes "tmpfile" ∷ codes "tmpnam" ∷ codes "toascii" ∷ codes "tolower" ∷ codes "toupper" ∷
    codes "towctrans" ∷ codes "towlower" ∷ codes "towupper" ∷ codes "trunc" ∷ codes "truncf" ∷ codes "truncl" ∷
    codes "ungetc" ∷ codes "ungetwc" ∷ codes "vfork" ∷ codes "vfprintf" ∷ codes "vfscanf" ∷ codes "vfwprintf" ∷
    codes "vfwscanf" ∷ codes "vprintf" ∷ codes "vscanf" ∷ codes "vsnprintf" ∷ codes "vsprintf" ∷ codes "vsscanf" ∷
    codes "vswprintf" ∷ codes "vswscanf" ∷ codes "vwprintf" ∷ codes "vwscanf" ∷ codes "wcrtomb" ∷ codes "wcscat" ∷
    codes "wcschr" ∷ codes "wcscmp" ∷ codes "wcscoll" ∷ []

unfoldable pub row_13 : List (List ℕ)
row_13 =
    codes "wcscpy" ∷ codes "wcscspn" ∷ codes "wcsftime" ∷ codes "wcslen" ∷ codes "wcsncat" ∷ codes "wcsncmp" ∷
    codes "wcsncpy" ∷ codes "wcspbrk" ∷ codes "wcsrchr" ∷ codes "wcsrtombs" ∷ codes "wcsspn" ∷ codes "wcsstr" ∷
    codes "wcstod" ∷ codes "wcstof" ∷ codes "wcstoimax" ∷ codes "wcstok" ∷ codes "wcstol" ∷ codes "wcstold" ∷
    codes "wcstoll" ∷ codes "wcstombs" ∷ codes "wcstoul" ∷ codes "wcstoull" ∷ codes "wcstoumax" ∷ codes "wcsxfrm" ∷
    codes "wctob" ∷ codes "wctomb" ∷ codes "wctrans" ∷ codes "wctype" ∷ codes "wmemchr" ∷ codes "wmemcmp" ∷
    codes "wmemcpy" ∷ codes "wmemmove" ∷ codes "wmemset" ∷ codes "wprintf" ∷ codes "wscanf" ∷ codes "y0" ∷
    codes "y0f" ∷ codes "y0l" ∷ codes "y1" ∷ codes "y1f" ∷ []

unfoldable pub row_14 : List (List ℕ)
row_14 =
    codes "y1l" ∷ codes "yn" ∷ codes "ynf" ∷ codes "ynl" ∷ []

unfoldable pub library : List (List ℕ)
library =
    row_0 ++ row_1 ++ row_2 ++ row_3 ++ row_4 ++ row_5 ++ row_6 ++ row_7 ++ row_8 ++ row_9 ++ row_10
    ++ row_11 ++ row_12 ++ row_13 ++ row_14
