-- The values m and n that contexts begin with (9.3.1.1, Tables 9-12 to 9-33). To be read beside the standard.
-- tools/cabac_tables.py writes this file.
use Rattle.std.specs.Prelude.{List, [], ◌∷◌, ℤ, pos, negsuc}

-- of I slices: ctxIdx 3 to 10, 60 to 69, 73 to 275, 399 to 435
unfoldable pub i_pairs : List (ℤ × ℤ)
i_pairs =
    (pos 20, negsuc 14) ∷ (pos 2, pos 54) ∷ (pos 3, pos 74) ∷ (negsuc 27, pos 127) ∷
    (negsuc 22, pos 104) ∷ (negsuc 5, pos 53) ∷ (negsuc 0, pos 54) ∷ (pos 7, pos 51) ∷
    (pos 0, pos 41) ∷ (pos 0, pos 63) ∷ (pos 0, pos 63) ∷ (pos 0, pos 63) ∷ (negsuc 8, pos 83) ∷
    (pos 4, pos 86) ∷ (pos 0, pos 97) ∷ (negsuc 6, pos 72) ∷ (pos 13, pos 41) ∷ (pos 3, pos 62) ∷
    (negsuc 16, pos 127) ∷ (negsuc 12, pos 102) ∷ (pos 0, pos 82) ∷ (negsuc 6, pos 74) ∷
    (negsuc 20, pos 107) ∷ (negsuc 26, pos 127) ∷ (negsuc 30, pos 127) ∷ (negsuc 23, pos 127) ∷
    (negsuc 17, pos 95) ∷ (negsuc 26, pos 127) ∷ (negsuc 20, pos 114) ∷ (negsuc 29, pos 127) ∷
    (negsuc 16, pos 123) ∷ (negsuc 11, pos 115) ∷ (negsuc 15, pos 122) ∷ (negsuc 10, pos 115) ∷
    (negsuc 11, pos 63) ∷ (negsuc 1, pos 68) ∷ (negsuc 14, pos 84) ∷ (negsuc 12, pos 104) ∷
    (negsuc 2, pos 70) ∷ (negsuc 7, pos 93) ∷ (negsuc 9, pos 90) ∷ (negsuc 29, pos 127) ∷
    (negsuc 0, pos 74) ∷ (negsuc 5, pos 97) ∷ (negsuc 6, pos 91) ∷ (negsuc 19, pos 127) ∷
    (negsuc 3, pos 56) ∷ (negsuc 4, pos 82) ∷ (negsuc 6, pos 76) ∷ (negsuc 21, pos 125) ∷
    (negsuc 6, pos 93) ∷ (negsuc 10, pos 87) ∷ (negsuc 2, pos 77) ∷ (negsuc 4, pos 71) ∷
    (negsuc 3, pos 63) ∷ (negsuc 3, pos 68) ∷ (negsuc 11, pos 84) ∷ (negsuc 6, pos 62) ∷
    (negsuc 6, pos 65) ∷ (pos 8, pos 61) ∷ (pos 5, pos 56) ∷ (negsuc 1, pos 66) ∷ (pos 1, pos 64) ∷
    (pos 0, pos 61) ∷ (negsuc 1, pos 78) ∷ (pos 1, pos 50) ∷ (pos 7, pos 52) ∷ (pos 10, pos 35) ∷
    (pos 0, pos 44) ∷ (pos 11, pos 38) ∷ (pos 1, pos 45) ∷ (pos 0, pos 46) ∷ (pos 5, pos 44) ∷
    (pos 31, pos 17) ∷ (pos 1, pos 51) ∷ (pos 7, pos 50) ∷ (pos 28, pos 19) ∷ (pos 16, pos 33) ∷
    (pos 14, pos 62) ∷ (negsuc 12, pos 108) ∷ (negsuc 14, pos 100) ∷ (negsuc 12, pos 101) ∷
    (negsuc 12, pos 91) ∷ (negsuc 11, pos 94) ∷ (negsuc 9, pos 88) ∷ (negsuc 15, pos 84) ∷
    (negsuc 9, pos 86) ∷ (negsuc 6, pos 83) ∷ (negsuc 12, pos 87) ∷ (negsuc 18, pos 94) ∷
    (pos 1, pos 70) ∷ (pos 0, pos 72) ∷ (negsuc 4, pos 74) ∷ (pos 18, pos 59) ∷
    (negsuc 7, pos 102) ∷ (negsuc 14, pos 100) ∷ (pos 0, pos 95) ∷ (negsuc 3, pos 75) ∷
    (pos 2, pos 72) ∷ (negsuc 10, pos 75) ∷ (negsuc 2, pos 71) ∷ (pos 15, pos 46) ∷
    (negsuc 12, pos 69) ∷ (pos 0, pos 62) ∷ (pos 0, pos 65) ∷ (pos 21, pos 37) ∷
    (negsuc 14, pos 72) ∷ (pos 9, pos 57) ∷ (pos 16, pos 54) ∷ (pos 0, pos 62) ∷ (pos 12, pos 72) ∷
    (pos 24, pos 0) ∷ (pos 15, pos 9) ∷ (pos 8, pos 25) ∷ (pos 13, pos 18) ∷ (pos 15, pos 9) ∷
    (pos 13, pos 19) ∷ (pos 10, pos 37) ∷ (pos 12, pos 18) ∷ (pos 6, pos 29) ∷ (pos 20, pos 33) ∷
    (pos 15, pos 30) ∷ (pos 4, pos 45) ∷ (pos 1, pos 58) ∷ (pos 0, pos 62) ∷ (pos 7, pos 61) ∷
    (pos 12, pos 38) ∷ (pos 11, pos 45) ∷ (pos 15, pos 39) ∷ (pos 11, pos 42) ∷ (pos 13, pos 44) ∷
    (pos 16, pos 45) ∷ (pos 12, pos 41) ∷ (pos 10, pos 49) ∷ (pos 30, pos 34) ∷ (pos 18, pos 42) ∷
    (pos 10, pos 55) ∷ (pos 17, pos 51) ∷ (pos 17, pos 46) ∷ (pos 0, pos 89) ∷ (pos 26, negsuc 18) ∷
    (pos 22, negsuc 16) ∷ (pos 26, negsuc 16) ∷ (pos 30, negsuc 24) ∷ (pos 28, negsuc 19) ∷
    (pos 33, negsuc 22) ∷ (pos 37, negsuc 26) ∷ (pos 33, negsuc 22) ∷ (pos 40, negsuc 27) ∷
    (pos 38, negsuc 16) ∷ (pos 33, negsuc 10) ∷ (pos 40, negsuc 14) ∷ (pos 41, negsuc 5) ∷
    (pos 38, pos 1) ∷ (pos 41, pos 17) ∷ (pos 30, negsuc 5) ∷ (pos 27, pos 3) ∷ (pos 26, pos 22) ∷
    (pos 37, negsuc 15) ∷ (pos 35, negsuc 3) ∷ (pos 38, negsuc 7) ∷ (pos 38, negsuc 2) ∷
    (pos 37, pos 3) ∷ (pos 38, pos 5) ∷ (pos 42, pos 0) ∷ (pos 35, pos 16) ∷ (pos 39, pos 22) ∷
    (pos 14, pos 48) ∷ (pos 27, pos 37) ∷ (pos 21, pos 60) ∷ (pos 12, pos 68) ∷ (pos 2, pos 97) ∷
    (negsuc 2, pos 71) ∷ (negsuc 5, pos 42) ∷ (negsuc 4, pos 50) ∷ (negsuc 2, pos 54) ∷
    (negsuc 1, pos 62) ∷ (pos 0, pos 58) ∷ (pos 1, pos 63) ∷ (negsuc 1, pos 72) ∷
    (negsuc 0, pos 74) ∷ (negsuc 8, pos 91) ∷ (negsuc 4, pos 67) ∷ (negsuc 4, pos 27) ∷
    (negsuc 2, pos 39) ∷ (negsuc 1, pos 44) ∷ (pos 0, pos 46) ∷ (negsuc 15, pos 64) ∷
    (negsuc 7, pos 68) ∷ (negsuc 9, pos 78) ∷ (negsuc 5, pos 77) ∷ (negsuc 9, pos 86) ∷
    (negsuc 11, pos 92) ∷ (negsuc 14, pos 55) ∷ (negsuc 9, pos 60) ∷ (negsuc 5, pos 62) ∷
    (negsuc 3, pos 65) ∷ (negsuc 11, pos 73) ∷ (negsuc 7, pos 76) ∷ (negsuc 6, pos 80) ∷
    (negsuc 8, pos 88) ∷ (negsuc 16, pos 110) ∷ (negsuc 10, pos 97) ∷ (negsuc 19, pos 84) ∷
    (negsuc 10, pos 79) ∷ (negsuc 5, pos 73) ∷ (negsuc 3, pos 74) ∷ (negsuc 12, pos 86) ∷
    (negsuc 12, pos 96) ∷ (negsuc 10, pos 97) ∷ (negsuc 18, pos 117) ∷ (negsuc 7, pos 78) ∷
    (negsuc 4, pos 33) ∷ (negsuc 3, pos 48) ∷ (negsuc 1, pos 53) ∷ (negsuc 2, pos 62) ∷
    (negsuc 12, pos 71) ∷ (negsuc 9, pos 79) ∷ (negsuc 11, pos 86) ∷ (negsuc 12, pos 90) ∷
    (negsuc 13, pos 97) ∷ (pos 31, pos 21) ∷ (pos 31, pos 31) ∷ (pos 25, pos 50) ∷
    (negsuc 16, pos 120) ∷ (negsuc 19, pos 112) ∷ (negsuc 17, pos 114) ∷ (negsuc 10, pos 85) ∷
    (negsuc 14, pos 92) ∷ (negsuc 13, pos 89) ∷ (negsuc 25, pos 71) ∷ (negsuc 14, pos 81) ∷
    (negsuc 13, pos 80) ∷ (pos 0, pos 68) ∷ (negsuc 13, pos 70) ∷ (negsuc 23, pos 56) ∷
    (negsuc 22, pos 68) ∷ (negsuc 23, pos 50) ∷ (negsuc 10, pos 74) ∷ (pos 23, negsuc 12) ∷
    (pos 26, negsuc 12) ∷ (pos 40, negsuc 14) ∷ (pos 49, negsuc 13) ∷ (pos 44, pos 3) ∷
    (pos 45, pos 6) ∷ (pos 44, pos 34) ∷ (pos 33, pos 54) ∷ (pos 19, pos 82) ∷ (negsuc 2, pos 75) ∷
    (negsuc 0, pos 23) ∷ (pos 1, pos 34) ∷ (pos 1, pos 43) ∷ (pos 0, pos 54) ∷ (negsuc 1, pos 55) ∷
    (pos 0, pos 61) ∷ (pos 1, pos 64) ∷ (pos 0, pos 68) ∷ (negsuc 8, pos 92) ∷
    []

-- of P slices with cabac_init_idc 0: ctxIdx 3 to 23, 40 to 69, 73 to 275, 399 to 435
unfoldable pub pairs_0 : List (ℤ × ℤ)
pairs_0 =
    (pos 20, negsuc 14) ∷ (pos 2, pos 54) ∷ (pos 3, pos 74) ∷ (negsuc 27, pos 127) ∷
    (negsuc 22, pos 104) ∷ (negsuc 5, pos 53) ∷ (negsuc 0, pos 54) ∷ (pos 7, pos 51) ∷
    (pos 23, pos 33) ∷ (pos 23, pos 2) ∷ (pos 21, pos 0) ∷ (pos 1, pos 9) ∷ (pos 0, pos 49) ∷
    (negsuc 36, pos 118) ∷ (pos 5, pos 57) ∷ (negsuc 12, pos 78) ∷ (negsuc 10, pos 65) ∷
    (pos 1, pos 62) ∷ (pos 12, pos 49) ∷ (negsuc 3, pos 73) ∷ (pos 17, pos 50) ∷
    (negsuc 2, pos 69) ∷ (negsuc 5, pos 81) ∷ (negsuc 10, pos 96) ∷ (pos 6, pos 55) ∷
    (pos 7, pos 67) ∷ (negsuc 4, pos 86) ∷ (pos 2, pos 88) ∷ (pos 0, pos 58) ∷ (negsuc 2, pos 76) ∷
    (negsuc 9, pos 94) ∷ (pos 5, pos 54) ∷ (pos 4, pos 69) ∷ (negsuc 2, pos 81) ∷ (pos 0, pos 88) ∷
    (negsuc 6, pos 67) ∷ (negsuc 4, pos 74) ∷ (negsuc 3, pos 74) ∷ (negsuc 4, pos 80) ∷
    (negsuc 6, pos 72) ∷ (pos 1, pos 58) ∷ (pos 0, pos 41) ∷ (pos 0, pos 63) ∷ (pos 0, pos 63) ∷
    (pos 0, pos 63) ∷ (negsuc 8, pos 83) ∷ (pos 4, pos 86) ∷ (pos 0, pos 97) ∷ (negsuc 6, pos 72) ∷
    (pos 13, pos 41) ∷ (pos 3, pos 62) ∷ (negsuc 26, pos 126) ∷ (negsuc 27, pos 98) ∷
    (negsuc 24, pos 101) ∷ (negsuc 22, pos 67) ∷ (negsuc 27, pos 82) ∷ (negsuc 19, pos 94) ∷
    (negsuc 15, pos 83) ∷ (negsuc 21, pos 110) ∷ (negsuc 20, pos 91) ∷ (negsuc 17, pos 102) ∷
    (negsuc 12, pos 93) ∷ (negsuc 28, pos 127) ∷ (negsuc 6, pos 92) ∷ (negsuc 4, pos 89) ∷
    (negsuc 6, pos 96) ∷ (negsuc 12, pos 108) ∷ (negsuc 2, pos 46) ∷ (negsuc 0, pos 65) ∷
    (negsuc 0, pos 57) ∷ (negsuc 8, pos 93) ∷ (negsuc 2, pos 74) ∷ (negsuc 8, pos 92) ∷
    (negsuc 7, pos 87) ∷ (negsuc 22, pos 126) ∷ (pos 5, pos 54) ∷ (pos 6, pos 60) ∷
    (pos 6, pos 59) ∷ (pos 6, pos 69) ∷ (negsuc 0, pos 48) ∷ (pos 0, pos 68) ∷ (negsuc 3, pos 69) ∷
    (negsuc 7, pos 88) ∷ (negsuc 1, pos 85) ∷ (negsuc 5, pos 78) ∷ (negsuc 0, pos 75) ∷
    (negsuc 6, pos 77) ∷ (pos 2, pos 54) ∷ (pos 5, pos 50) ∷ (negsuc 2, pos 68) ∷ (pos 1, pos 50) ∷
    (pos 6, pos 42) ∷ (negsuc 3, pos 81) ∷ (pos 1, pos 63) ∷ (negsuc 3, pos 70) ∷ (pos 0, pos 67) ∷
    (pos 2, pos 57) ∷ (negsuc 1, pos 76) ∷ (pos 11, pos 35) ∷ (pos 4, pos 64) ∷ (pos 1, pos 61) ∷
    (pos 11, pos 35) ∷ (pos 18, pos 25) ∷ (pos 12, pos 24) ∷ (pos 13, pos 29) ∷ (pos 13, pos 36) ∷
    (negsuc 9, pos 93) ∷ (negsuc 6, pos 73) ∷ (negsuc 1, pos 73) ∷ (pos 13, pos 46) ∷
    (pos 9, pos 49) ∷ (negsuc 6, pos 100) ∷ (pos 9, pos 53) ∷ (pos 2, pos 53) ∷ (pos 5, pos 53) ∷
    (negsuc 1, pos 61) ∷ (pos 0, pos 56) ∷ (pos 0, pos 56) ∷ (negsuc 12, pos 63) ∷
    (negsuc 4, pos 60) ∷ (negsuc 0, pos 62) ∷ (pos 4, pos 57) ∷ (negsuc 5, pos 69) ∷
    (pos 4, pos 57) ∷ (pos 14, pos 39) ∷ (pos 4, pos 51) ∷ (pos 13, pos 68) ∷ (pos 3, pos 64) ∷
    (pos 1, pos 61) ∷ (pos 9, pos 63) ∷ (pos 7, pos 50) ∷ (pos 16, pos 39) ∷ (pos 5, pos 44) ∷
    (pos 4, pos 52) ∷ (pos 11, pos 48) ∷ (negsuc 4, pos 60) ∷ (negsuc 0, pos 59) ∷ (pos 0, pos 59) ∷
    (pos 22, pos 33) ∷ (pos 5, pos 44) ∷ (pos 14, pos 43) ∷ (negsuc 0, pos 78) ∷ (pos 0, pos 60) ∷
    (pos 9, pos 69) ∷ (pos 11, pos 28) ∷ (pos 2, pos 40) ∷ (pos 3, pos 44) ∷ (pos 0, pos 49) ∷
    (pos 0, pos 46) ∷ (pos 2, pos 44) ∷ (pos 2, pos 51) ∷ (pos 0, pos 47) ∷ (pos 4, pos 39) ∷
    (pos 2, pos 62) ∷ (pos 6, pos 46) ∷ (pos 0, pos 54) ∷ (pos 3, pos 54) ∷ (pos 2, pos 58) ∷
    (pos 4, pos 63) ∷ (pos 6, pos 51) ∷ (pos 6, pos 57) ∷ (pos 7, pos 53) ∷ (pos 6, pos 52) ∷
    (pos 6, pos 55) ∷ (pos 11, pos 45) ∷ (pos 14, pos 36) ∷ (pos 8, pos 53) ∷ (negsuc 0, pos 82) ∷
    (pos 7, pos 55) ∷ (negsuc 2, pos 78) ∷ (pos 15, pos 46) ∷ (pos 22, pos 31) ∷
    (negsuc 0, pos 84) ∷ (pos 25, pos 7) ∷ (pos 30, negsuc 6) ∷ (pos 28, pos 3) ∷ (pos 28, pos 4) ∷
    (pos 32, pos 0) ∷ (pos 34, negsuc 0) ∷ (pos 30, pos 6) ∷ (pos 30, pos 6) ∷ (pos 32, pos 9) ∷
    (pos 31, pos 19) ∷ (pos 26, pos 27) ∷ (pos 26, pos 30) ∷ (pos 37, pos 20) ∷ (pos 28, pos 34) ∷
    (pos 17, pos 70) ∷ (pos 1, pos 67) ∷ (pos 5, pos 59) ∷ (pos 9, pos 67) ∷ (pos 16, pos 30) ∷
    (pos 18, pos 32) ∷ (pos 18, pos 35) ∷ (pos 22, pos 29) ∷ (pos 24, pos 31) ∷ (pos 23, pos 38) ∷
    (pos 18, pos 43) ∷ (pos 20, pos 41) ∷ (pos 11, pos 63) ∷ (pos 9, pos 59) ∷ (pos 9, pos 64) ∷
    (negsuc 0, pos 94) ∷ (negsuc 1, pos 89) ∷ (negsuc 8, pos 108) ∷ (negsuc 5, pos 76) ∷
    (negsuc 1, pos 44) ∷ (pos 0, pos 45) ∷ (pos 0, pos 52) ∷ (negsuc 2, pos 64) ∷
    (negsuc 1, pos 59) ∷ (negsuc 3, pos 70) ∷ (negsuc 3, pos 75) ∷ (negsuc 7, pos 82) ∷
    (negsuc 16, pos 102) ∷ (negsuc 8, pos 77) ∷ (pos 3, pos 24) ∷ (pos 0, pos 42) ∷
    (pos 0, pos 48) ∷ (pos 0, pos 55) ∷ (negsuc 5, pos 59) ∷ (negsuc 6, pos 71) ∷
    (negsuc 11, pos 83) ∷ (negsuc 10, pos 87) ∷ (negsuc 29, pos 119) ∷ (pos 1, pos 58) ∷
    (negsuc 2, pos 29) ∷ (negsuc 0, pos 36) ∷ (pos 1, pos 38) ∷ (pos 2, pos 43) ∷
    (negsuc 5, pos 55) ∷ (pos 0, pos 58) ∷ (pos 0, pos 64) ∷ (negsuc 2, pos 74) ∷
    (negsuc 9, pos 90) ∷ (pos 0, pos 70) ∷ (negsuc 3, pos 29) ∷ (pos 5, pos 31) ∷ (pos 7, pos 42) ∷
    (pos 1, pos 59) ∷ (negsuc 1, pos 58) ∷ (negsuc 2, pos 72) ∷ (negsuc 2, pos 81) ∷
    (negsuc 10, pos 97) ∷ (pos 0, pos 58) ∷ (pos 8, pos 5) ∷ (pos 10, pos 14) ∷ (pos 14, pos 18) ∷
    (pos 13, pos 27) ∷ (pos 2, pos 40) ∷ (pos 0, pos 58) ∷ (negsuc 2, pos 70) ∷ (negsuc 5, pos 79) ∷
    (negsuc 7, pos 85) ∷ (pos 12, pos 40) ∷ (pos 11, pos 51) ∷ (pos 14, pos 59) ∷
    (negsuc 3, pos 79) ∷ (negsuc 6, pos 71) ∷ (negsuc 4, pos 69) ∷ (negsuc 8, pos 70) ∷
    (negsuc 7, pos 66) ∷ (negsuc 9, pos 68) ∷ (negsuc 18, pos 73) ∷ (negsuc 11, pos 69) ∷
    (negsuc 15, pos 70) ∷ (negsuc 14, pos 67) ∷ (negsuc 19, pos 62) ∷ (negsuc 18, pos 70) ∷
    (negsuc 15, pos 66) ∷ (negsuc 21, pos 65) ∷ (negsuc 19, pos 63) ∷ (pos 9, negsuc 1) ∷
    (pos 26, negsuc 8) ∷ (pos 33, negsuc 8) ∷ (pos 39, negsuc 6) ∷ (pos 41, negsuc 1) ∷
    (pos 45, pos 3) ∷ (pos 49, pos 9) ∷ (pos 45, pos 27) ∷ (pos 36, pos 59) ∷ (negsuc 5, pos 66) ∷
    (negsuc 6, pos 35) ∷ (negsuc 6, pos 42) ∷ (negsuc 7, pos 45) ∷ (negsuc 4, pos 48) ∷
    (negsuc 11, pos 56) ∷ (negsuc 5, pos 60) ∷ (negsuc 4, pos 62) ∷ (negsuc 7, pos 66) ∷
    (negsuc 7, pos 76) ∷
    []

-- of P slices with cabac_init_idc 1: ctxIdx 3 to 23, 40 to 69, 73 to 275, 399 to 435
unfoldable pub pairs_1 : List (ℤ × ℤ)
pairs_1 =
    (pos 20, negsuc 14) ∷ (pos 2, pos 54) ∷ (pos 3, pos 74) ∷ (negsuc 27, pos 127) ∷
    (negsuc 22, pos 104) ∷ (negsuc 5, pos 53) ∷ (negsuc 0, pos 54) ∷ (pos 7, pos 51) ∷
    (pos 22, pos 25) ∷ (pos 34, pos 0) ∷ (pos 16, pos 0) ∷ (negsuc 1, pos 9) ∷ (pos 4, pos 41) ∷
    (negsuc 28, pos 118) ∷ (pos 2, pos 65) ∷ (negsuc 5, pos 71) ∷ (negsuc 12, pos 79) ∷
    (pos 5, pos 52) ∷ (pos 9, pos 50) ∷ (negsuc 2, pos 70) ∷ (pos 10, pos 54) ∷ (negsuc 1, pos 69) ∷
    (negsuc 4, pos 82) ∷ (negsuc 9, pos 96) ∷ (pos 2, pos 59) ∷ (pos 2, pos 75) ∷
    (negsuc 2, pos 87) ∷ (negsuc 2, pos 100) ∷ (pos 1, pos 56) ∷ (negsuc 2, pos 74) ∷
    (negsuc 5, pos 85) ∷ (pos 0, pos 59) ∷ (negsuc 2, pos 81) ∷ (negsuc 6, pos 86) ∷
    (negsuc 4, pos 95) ∷ (negsuc 0, pos 66) ∷ (negsuc 0, pos 77) ∷ (pos 1, pos 70) ∷
    (negsuc 1, pos 86) ∷ (negsuc 4, pos 72) ∷ (pos 0, pos 61) ∷ (pos 0, pos 41) ∷ (pos 0, pos 63) ∷
    (pos 0, pos 63) ∷ (pos 0, pos 63) ∷ (negsuc 8, pos 83) ∷ (pos 4, pos 86) ∷ (pos 0, pos 97) ∷
    (negsuc 6, pos 72) ∷ (pos 13, pos 41) ∷ (pos 3, pos 62) ∷ (negsuc 38, pos 127) ∷
    (negsuc 17, pos 91) ∷ (negsuc 16, pos 96) ∷ (negsuc 25, pos 81) ∷ (negsuc 34, pos 98) ∷
    (negsuc 23, pos 102) ∷ (negsuc 22, pos 97) ∷ (negsuc 26, pos 119) ∷ (negsuc 23, pos 99) ∷
    (negsuc 20, pos 110) ∷ (negsuc 17, pos 102) ∷ (negsuc 35, pos 127) ∷ (pos 0, pos 80) ∷
    (negsuc 4, pos 89) ∷ (negsuc 6, pos 94) ∷ (negsuc 3, pos 92) ∷ (pos 0, pos 39) ∷
    (pos 0, pos 65) ∷ (negsuc 14, pos 84) ∷ (negsuc 34, pos 127) ∷ (negsuc 1, pos 73) ∷
    (negsuc 11, pos 104) ∷ (negsuc 8, pos 91) ∷ (negsuc 30, pos 127) ∷ (pos 3, pos 55) ∷
    (pos 7, pos 56) ∷ (pos 7, pos 55) ∷ (pos 8, pos 61) ∷ (negsuc 2, pos 53) ∷ (pos 0, pos 68) ∷
    (negsuc 6, pos 74) ∷ (negsuc 8, pos 88) ∷ (negsuc 12, pos 103) ∷ (negsuc 12, pos 91) ∷
    (negsuc 8, pos 89) ∷ (negsuc 13, pos 92) ∷ (negsuc 7, pos 76) ∷ (negsuc 11, pos 87) ∷
    (negsuc 22, pos 110) ∷ (negsuc 23, pos 105) ∷ (negsuc 9, pos 78) ∷ (negsuc 19, pos 112) ∷
    (negsuc 16, pos 99) ∷ (negsuc 77, pos 127) ∷ (negsuc 69, pos 127) ∷ (negsuc 49, pos 127) ∷
    (negsuc 45, pos 127) ∷ (negsuc 3, pos 66) ∷ (negsuc 4, pos 78) ∷ (negsuc 3, pos 71) ∷
    (negsuc 7, pos 72) ∷ (pos 2, pos 59) ∷ (negsuc 0, pos 55) ∷ (negsuc 6, pos 70) ∷
    (negsuc 5, pos 75) ∷ (negsuc 7, pos 89) ∷ (negsuc 33, pos 119) ∷ (negsuc 2, pos 75) ∷
    (pos 32, pos 20) ∷ (pos 30, pos 22) ∷ (negsuc 43, pos 127) ∷ (pos 0, pos 54) ∷
    (negsuc 4, pos 61) ∷ (pos 0, pos 58) ∷ (negsuc 0, pos 60) ∷ (negsuc 2, pos 61) ∷
    (negsuc 7, pos 67) ∷ (negsuc 24, pos 84) ∷ (negsuc 13, pos 74) ∷ (negsuc 4, pos 65) ∷
    (pos 5, pos 52) ∷ (pos 2, pos 57) ∷ (pos 0, pos 61) ∷ (negsuc 8, pos 69) ∷ (negsuc 10, pos 70) ∷
    (pos 18, pos 55) ∷ (negsuc 3, pos 71) ∷ (pos 0, pos 58) ∷ (pos 7, pos 61) ∷ (pos 9, pos 41) ∷
    (pos 18, pos 25) ∷ (pos 9, pos 32) ∷ (pos 5, pos 43) ∷ (pos 9, pos 47) ∷ (pos 0, pos 44) ∷
    (pos 0, pos 51) ∷ (pos 2, pos 46) ∷ (pos 19, pos 38) ∷ (negsuc 3, pos 66) ∷ (pos 15, pos 38) ∷
    (pos 12, pos 42) ∷ (pos 9, pos 34) ∷ (pos 0, pos 89) ∷ (pos 4, pos 45) ∷ (pos 10, pos 28) ∷
    (pos 10, pos 31) ∷ (pos 33, negsuc 10) ∷ (pos 52, negsuc 42) ∷ (pos 18, pos 15) ∷
    (pos 28, pos 0) ∷ (pos 35, negsuc 21) ∷ (pos 38, negsuc 24) ∷ (pos 34, pos 0) ∷
    (pos 39, negsuc 17) ∷ (pos 32, negsuc 11) ∷ (pos 102, negsuc 93) ∷ (pos 0, pos 0) ∷
    (pos 56, negsuc 14) ∷ (pos 33, negsuc 3) ∷ (pos 29, pos 10) ∷ (pos 37, negsuc 4) ∷
    (pos 51, negsuc 28) ∷ (pos 39, negsuc 8) ∷ (pos 52, negsuc 33) ∷ (pos 69, negsuc 57) ∷
    (pos 67, negsuc 62) ∷ (pos 44, negsuc 4) ∷ (pos 32, pos 7) ∷ (pos 55, negsuc 28) ∷
    (pos 32, pos 1) ∷ (pos 0, pos 0) ∷ (pos 27, pos 36) ∷ (pos 33, negsuc 24) ∷
    (pos 34, negsuc 29) ∷ (pos 36, negsuc 27) ∷ (pos 38, negsuc 27) ∷ (pos 38, negsuc 26) ∷
    (pos 34, negsuc 17) ∷ (pos 35, negsuc 15) ∷ (pos 34, negsuc 13) ∷ (pos 32, negsuc 7) ∷
    (pos 37, negsuc 5) ∷ (pos 35, pos 0) ∷ (pos 30, pos 10) ∷ (pos 28, pos 18) ∷ (pos 26, pos 25) ∷
    (pos 29, pos 41) ∷ (pos 0, pos 75) ∷ (pos 2, pos 72) ∷ (pos 8, pos 77) ∷ (pos 14, pos 35) ∷
    (pos 18, pos 31) ∷ (pos 17, pos 35) ∷ (pos 21, pos 30) ∷ (pos 17, pos 45) ∷ (pos 20, pos 42) ∷
    (pos 18, pos 45) ∷ (pos 27, pos 26) ∷ (pos 16, pos 54) ∷ (pos 7, pos 66) ∷ (pos 16, pos 56) ∷
    (pos 11, pos 73) ∷ (pos 10, pos 67) ∷ (negsuc 9, pos 116) ∷ (negsuc 22, pos 112) ∷
    (negsuc 14, pos 71) ∷ (negsuc 6, pos 61) ∷ (pos 0, pos 53) ∷ (negsuc 4, pos 66) ∷
    (negsuc 10, pos 77) ∷ (negsuc 8, pos 80) ∷ (negsuc 8, pos 84) ∷ (negsuc 9, pos 87) ∷
    (negsuc 33, pos 127) ∷ (negsuc 20, pos 101) ∷ (negsuc 2, pos 39) ∷ (negsuc 4, pos 53) ∷
    (negsuc 6, pos 61) ∷ (negsuc 10, pos 75) ∷ (negsuc 14, pos 77) ∷ (negsuc 16, pos 91) ∷
    (negsuc 24, pos 107) ∷ (negsuc 24, pos 111) ∷ (negsuc 27, pos 122) ∷ (negsuc 10, pos 76) ∷
    (negsuc 9, pos 44) ∷ (negsuc 9, pos 52) ∷ (negsuc 9, pos 57) ∷ (negsuc 8, pos 58) ∷
    (negsuc 15, pos 72) ∷ (negsuc 6, pos 69) ∷ (negsuc 3, pos 69) ∷ (negsuc 4, pos 74) ∷
    (negsuc 8, pos 86) ∷ (pos 2, pos 66) ∷ (negsuc 8, pos 34) ∷ (pos 1, pos 32) ∷ (pos 11, pos 31) ∷
    (pos 5, pos 52) ∷ (negsuc 1, pos 55) ∷ (negsuc 1, pos 67) ∷ (pos 0, pos 73) ∷
    (negsuc 7, pos 89) ∷ (pos 3, pos 52) ∷ (pos 7, pos 4) ∷ (pos 10, pos 8) ∷ (pos 17, pos 8) ∷
    (pos 16, pos 19) ∷ (pos 3, pos 37) ∷ (negsuc 0, pos 61) ∷ (negsuc 4, pos 73) ∷
    (negsuc 0, pos 70) ∷ (negsuc 3, pos 78) ∷ (pos 25, pos 32) ∷ (pos 21, pos 49) ∷
    (pos 21, pos 54) ∷ (negsuc 4, pos 85) ∷ (negsuc 5, pos 81) ∷ (negsuc 9, pos 77) ∷
    (negsuc 6, pos 81) ∷ (negsuc 16, pos 80) ∷ (negsuc 17, pos 73) ∷ (negsuc 3, pos 74) ∷
    (negsuc 9, pos 83) ∷ (negsuc 8, pos 71) ∷ (negsuc 8, pos 67) ∷ (negsuc 0, pos 61) ∷
    (negsuc 7, pos 66) ∷ (negsuc 13, pos 66) ∷ (pos 0, pos 59) ∷ (pos 2, pos 59) ∷
    (pos 17, negsuc 9) ∷ (pos 32, negsuc 12) ∷ (pos 42, negsuc 8) ∷ (pos 49, negsuc 4) ∷
    (pos 53, pos 0) ∷ (pos 64, pos 3) ∷ (pos 68, pos 10) ∷ (pos 66, pos 27) ∷ (pos 47, pos 57) ∷
    (negsuc 4, pos 71) ∷ (pos 0, pos 24) ∷ (negsuc 0, pos 36) ∷ (negsuc 1, pos 42) ∷
    (negsuc 1, pos 52) ∷ (negsuc 8, pos 57) ∷ (negsuc 5, pos 63) ∷ (negsuc 3, pos 65) ∷
    (negsuc 3, pos 67) ∷ (negsuc 6, pos 82) ∷
    []

-- of P slices with cabac_init_idc 2: ctxIdx 3 to 23, 40 to 69, 73 to 275, 399 to 435
unfoldable pub pairs_2 : List (ℤ × ℤ)
pairs_2 =
    (pos 20, negsuc 14) ∷ (pos 2, pos 54) ∷ (pos 3, pos 74) ∷ (negsuc 27, pos 127) ∷
    (negsuc 22, pos 104) ∷ (negsuc 5, pos 53) ∷ (negsuc 0, pos 54) ∷ (pos 7, pos 51) ∷
    (pos 29, pos 16) ∷ (pos 25, pos 0) ∷ (pos 14, pos 0) ∷ (negsuc 9, pos 51) ∷ (negsuc 2, pos 62) ∷
    (negsuc 26, pos 99) ∷ (pos 26, pos 16) ∷ (negsuc 3, pos 85) ∷ (negsuc 23, pos 102) ∷
    (pos 5, pos 57) ∷ (pos 6, pos 57) ∷ (negsuc 16, pos 73) ∷ (pos 14, pos 57) ∷
    (negsuc 10, pos 89) ∷ (negsuc 14, pos 103) ∷ (negsuc 20, pos 116) ∷ (pos 19, pos 57) ∷
    (pos 20, pos 58) ∷ (pos 4, pos 84) ∷ (pos 6, pos 96) ∷ (pos 1, pos 63) ∷ (negsuc 4, pos 85) ∷
    (negsuc 12, pos 106) ∷ (pos 5, pos 63) ∷ (pos 6, pos 75) ∷ (negsuc 2, pos 90) ∷
    (negsuc 0, pos 101) ∷ (pos 3, pos 55) ∷ (negsuc 3, pos 79) ∷ (negsuc 1, pos 75) ∷
    (negsuc 11, pos 97) ∷ (negsuc 6, pos 50) ∷ (pos 1, pos 60) ∷ (pos 0, pos 41) ∷ (pos 0, pos 63) ∷
    (pos 0, pos 63) ∷ (pos 0, pos 63) ∷ (negsuc 8, pos 83) ∷ (pos 4, pos 86) ∷ (pos 0, pos 97) ∷
    (negsuc 6, pos 72) ∷ (pos 13, pos 41) ∷ (pos 3, pos 62) ∷ (negsuc 35, pos 127) ∷
    (negsuc 16, pos 91) ∷ (negsuc 13, pos 95) ∷ (negsuc 24, pos 84) ∷ (negsuc 24, pos 86) ∷
    (negsuc 11, pos 89) ∷ (negsuc 16, pos 91) ∷ (negsuc 30, pos 127) ∷ (negsuc 13, pos 76) ∷
    (negsuc 17, pos 103) ∷ (negsuc 12, pos 90) ∷ (negsuc 36, pos 127) ∷ (pos 11, pos 80) ∷
    (pos 5, pos 76) ∷ (pos 2, pos 84) ∷ (pos 5, pos 78) ∷ (negsuc 5, pos 55) ∷ (pos 4, pos 61) ∷
    (negsuc 13, pos 83) ∷ (negsuc 36, pos 127) ∷ (negsuc 4, pos 79) ∷ (negsuc 10, pos 104) ∷
    (negsuc 10, pos 91) ∷ (negsuc 29, pos 127) ∷ (pos 0, pos 65) ∷ (negsuc 1, pos 79) ∷
    (pos 0, pos 72) ∷ (negsuc 3, pos 92) ∷ (negsuc 5, pos 56) ∷ (pos 3, pos 68) ∷
    (negsuc 7, pos 71) ∷ (negsuc 12, pos 98) ∷ (negsuc 3, pos 86) ∷ (negsuc 11, pos 88) ∷
    (negsuc 4, pos 82) ∷ (negsuc 2, pos 72) ∷ (negsuc 3, pos 67) ∷ (negsuc 7, pos 72) ∷
    (negsuc 15, pos 89) ∷ (negsuc 8, pos 69) ∷ (negsuc 0, pos 59) ∷ (pos 5, pos 66) ∷
    (pos 4, pos 57) ∷ (negsuc 3, pos 71) ∷ (negsuc 1, pos 71) ∷ (pos 2, pos 58) ∷
    (negsuc 0, pos 74) ∷ (negsuc 3, pos 44) ∷ (negsuc 0, pos 69) ∷ (pos 0, pos 62) ∷
    (negsuc 6, pos 51) ∷ (negsuc 3, pos 47) ∷ (negsuc 5, pos 42) ∷ (negsuc 2, pos 41) ∷
    (negsuc 5, pos 53) ∷ (pos 8, pos 76) ∷ (negsuc 8, pos 78) ∷ (negsuc 10, pos 83) ∷
    (pos 9, pos 52) ∷ (pos 0, pos 67) ∷ (negsuc 4, pos 90) ∷ (pos 1, pos 67) ∷ (negsuc 14, pos 72) ∷
    (negsuc 4, pos 75) ∷ (negsuc 7, pos 80) ∷ (negsuc 20, pos 83) ∷ (negsuc 20, pos 64) ∷
    (negsuc 12, pos 31) ∷ (negsuc 24, pos 64) ∷ (negsuc 28, pos 94) ∷ (pos 9, pos 75) ∷
    (pos 17, pos 63) ∷ (negsuc 7, pos 74) ∷ (negsuc 4, pos 35) ∷ (negsuc 1, pos 27) ∷
    (pos 13, pos 91) ∷ (pos 3, pos 65) ∷ (negsuc 6, pos 69) ∷ (pos 8, pos 77) ∷ (negsuc 9, pos 66) ∷
    (pos 3, pos 62) ∷ (negsuc 2, pos 68) ∷ (negsuc 19, pos 81) ∷ (pos 0, pos 30) ∷ (pos 1, pos 7) ∷
    (negsuc 2, pos 23) ∷ (negsuc 20, pos 74) ∷ (pos 16, pos 66) ∷ (negsuc 22, pos 124) ∷
    (pos 17, pos 37) ∷ (pos 44, negsuc 17) ∷ (pos 50, negsuc 33) ∷ (negsuc 21, pos 127) ∷
    (pos 4, pos 39) ∷ (pos 0, pos 42) ∷ (pos 7, pos 34) ∷ (pos 11, pos 29) ∷ (pos 8, pos 31) ∷
    (pos 6, pos 37) ∷ (pos 7, pos 42) ∷ (pos 3, pos 40) ∷ (pos 8, pos 33) ∷ (pos 13, pos 43) ∷
    (pos 13, pos 36) ∷ (pos 4, pos 47) ∷ (pos 3, pos 55) ∷ (pos 2, pos 58) ∷ (pos 6, pos 60) ∷
    (pos 8, pos 44) ∷ (pos 11, pos 44) ∷ (pos 14, pos 42) ∷ (pos 7, pos 48) ∷ (pos 4, pos 56) ∷
    (pos 4, pos 52) ∷ (pos 13, pos 37) ∷ (pos 9, pos 49) ∷ (pos 19, pos 58) ∷ (pos 10, pos 48) ∷
    (pos 12, pos 45) ∷ (pos 0, pos 69) ∷ (pos 20, pos 33) ∷ (pos 8, pos 63) ∷ (pos 35, negsuc 17) ∷
    (pos 33, negsuc 24) ∷ (pos 28, negsuc 2) ∷ (pos 24, pos 10) ∷ (pos 27, pos 0) ∷
    (pos 34, negsuc 13) ∷ (pos 52, negsuc 43) ∷ (pos 39, negsuc 23) ∷ (pos 19, pos 17) ∷
    (pos 31, pos 25) ∷ (pos 36, pos 29) ∷ (pos 24, pos 33) ∷ (pos 34, pos 15) ∷ (pos 30, pos 20) ∷
    (pos 22, pos 73) ∷ (pos 20, pos 34) ∷ (pos 19, pos 31) ∷ (pos 27, pos 44) ∷ (pos 19, pos 16) ∷
    (pos 15, pos 36) ∷ (pos 15, pos 36) ∷ (pos 21, pos 28) ∷ (pos 25, pos 21) ∷ (pos 30, pos 20) ∷
    (pos 31, pos 12) ∷ (pos 27, pos 16) ∷ (pos 24, pos 42) ∷ (pos 0, pos 93) ∷ (pos 14, pos 56) ∷
    (pos 15, pos 57) ∷ (pos 26, pos 38) ∷ (negsuc 23, pos 127) ∷ (negsuc 23, pos 115) ∷
    (negsuc 21, pos 82) ∷ (negsuc 8, pos 62) ∷ (pos 0, pos 53) ∷ (pos 0, pos 59) ∷
    (negsuc 13, pos 85) ∷ (negsuc 12, pos 89) ∷ (negsuc 12, pos 94) ∷ (negsuc 10, pos 92) ∷
    (negsuc 28, pos 127) ∷ (negsuc 20, pos 100) ∷ (negsuc 13, pos 57) ∷ (negsuc 11, pos 67) ∷
    (negsuc 10, pos 71) ∷ (negsuc 9, pos 77) ∷ (negsuc 20, pos 85) ∷ (negsuc 15, pos 88) ∷
    (negsuc 22, pos 104) ∷ (negsuc 14, pos 98) ∷ (negsuc 36, pos 127) ∷ (negsuc 9, pos 82) ∷
    (negsuc 7, pos 48) ∷ (negsuc 7, pos 61) ∷ (negsuc 7, pos 66) ∷ (negsuc 6, pos 70) ∷
    (negsuc 13, pos 75) ∷ (negsuc 9, pos 79) ∷ (negsuc 8, pos 83) ∷ (negsuc 11, pos 92) ∷
    (negsuc 17, pos 108) ∷ (negsuc 3, pos 79) ∷ (negsuc 21, pos 69) ∷ (negsuc 15, pos 75) ∷
    (negsuc 1, pos 58) ∷ (pos 1, pos 58) ∷ (negsuc 12, pos 78) ∷ (negsuc 8, pos 83) ∷
    (negsuc 3, pos 81) ∷ (negsuc 12, pos 99) ∷ (negsuc 12, pos 81) ∷ (negsuc 5, pos 38) ∷
    (negsuc 12, pos 62) ∷ (negsuc 5, pos 58) ∷ (negsuc 1, pos 59) ∷ (negsuc 15, pos 73) ∷
    (negsuc 9, pos 76) ∷ (negsuc 12, pos 86) ∷ (negsuc 8, pos 83) ∷ (negsuc 9, pos 87) ∷
    (pos 21, pos 33) ∷ (pos 19, pos 50) ∷ (pos 17, pos 61) ∷ (negsuc 2, pos 78) ∷
    (negsuc 7, pos 74) ∷ (negsuc 8, pos 72) ∷ (negsuc 9, pos 72) ∷ (negsuc 17, pos 75) ∷
    (negsuc 11, pos 71) ∷ (negsuc 10, pos 63) ∷ (negsuc 4, pos 70) ∷ (negsuc 16, pos 75) ∷
    (negsuc 13, pos 72) ∷ (negsuc 15, pos 67) ∷ (negsuc 7, pos 53) ∷ (negsuc 13, pos 59) ∷
    (negsuc 8, pos 52) ∷ (negsuc 10, pos 68) ∷ (pos 9, negsuc 1) ∷ (pos 30, negsuc 9) ∷
    (pos 31, negsuc 3) ∷ (pos 33, negsuc 0) ∷ (pos 33, pos 7) ∷ (pos 31, pos 12) ∷
    (pos 37, pos 23) ∷ (pos 31, pos 38) ∷ (pos 20, pos 64) ∷ (negsuc 8, pos 71) ∷
    (negsuc 6, pos 37) ∷ (negsuc 7, pos 44) ∷ (negsuc 10, pos 49) ∷ (negsuc 9, pos 56) ∷
    (negsuc 11, pos 59) ∷ (negsuc 7, pos 63) ∷ (negsuc 8, pos 67) ∷ (negsuc 5, pos 68) ∷
    (negsuc 9, pos 79) ∷
    []
